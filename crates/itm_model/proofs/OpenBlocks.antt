-- Laws of the open blocks, as calls change what they stand on.
use Rattle.std.proofs.Common.{◌≡◌, ℕ, suc, Bool, true, false, true≢false, ◌||◌, ◌+◌, ◌-◌, ◌≤◌, ◌<◌, List, [], ◌∷◌, ◌++◌, length, take, drop, reverse, subst, refl, ap, sym, ◌∙◌, arith, length-append, Option, None, option_map, map}
use Rattle.itm_model.proofs.Common.{Actions, AreUnder, AreWithin, Block, Logged, Mark, Old, Props, Restores, Saved, State, also_kept, back, back_from, block_of, blocks_from, blocks_of, bytes_in, closed, committed, cut_back, drop-append-le, handed, irrevocable_from, kept_of, length-reverse, length-take-le, list_any, logged_in, merged, put_back, restored, reverse-append, saved_in, saved_of, take-append-drop, take-take, undone, undone_from}
use Rattle.std.proofs.lemmas.List.Sorted.{list_any-IsPermutation, IsPermutation-reverse}
use Rattle.itm_model.{proofs.Journals.Rollbacks.length-put_back, proofs.Journals.KeptLogs.kept_of-append}
use Rattle.itm_types.{proofs.Elements.all_map, proofs.OldBytes.kept_of-same, proofs.OldBytes.restored_kept}

-- ## Marks

-- more entries
pub AreUnder-more : (n n' h h' : ℕ) (ms : List Mark) → n ≤ n' → h ≤ h' → AreUnder n h ms → AreUnder n' h' ms
AreUnder-more n n' h h' [] e f u = tt
AreUnder-more n n' h h' (x ∷ ms) e f u = (omega (arith, e, u.0), omega (arith, f, u.1), u.2)

-- the innermost mark gone
pub under_last : (top high : ℕ) (ms : List Mark) (x : Mark) → AreUnder top high (reverse (ms ++ x ∷ [])) → (x.at ≤ top) × (x.logs ≤ high) × AreUnder x.at x.logs (reverse ms)
under_last top high ms x u = subst (AreUnder top high) (reverse-append ms (x ∷ [])) u

-- ## The same blocks, on other bytes

-- the block of a mark, with the bytes that it goes back to
abbrev block_with : Bool → Mark → List ℕ → List (Option ℕ) → Block
block_with irr x memory kept = record { props = x.props; saved = saved_in irr (record { memory = memory; wrote = x.wrote; commits = x.actions.commits; undos = x.actions.undos; kept = kept }) }

-- the blocks are the same where what stood at their begins is
pub blocks_same : (irr : Bool) (j : List Old) (m : List ℕ) (j' : List Old) (m' : List ℕ) (a : List ℕ) (os : List Old) (top high : ℕ) (ms : List Mark) → AreUnder top high ms → Restores top j m j' m'
    → blocks_from irr j' m' a os ms ≡ blocks_from irr j m a os ms
blocks_same irr j m j' m' a os top high [] u r = refl
blocks_same irr j m j' m' a os top high (x ∷ ms) u r =
    let head : block_of irr j' m' a os x ≡ block_of irr j m a os x = ap (λ t. block_with irr x t (kept_of a (drop x.logs os))) (r x.at u.0) in
    let tail = blocks_same irr j m j' m' a (take x.logs os) x.at x.logs ms u.2 (λ k h. r k (omega (arith, u.0, h))) in
    (λ i. head i ∷ tail i)

-- and where the arena is as long
pub blocks_long : (irr : Bool) (j : List Old) (m a a' : List ℕ) (os : List Old) (ms : List Mark) → length a' ≡ length a → blocks_from irr j m a' os ms ≡ blocks_from irr j m a os ms
blocks_long irr j m a a' os [] e = refl
blocks_long irr j m a a' os (x ∷ ms) e =
    let head : block_of irr j m a' os x ≡ block_of irr j m a os x = ap (block_with irr x (put_back (drop x.at j) m)) (kept_of-same a' a (map bytes_in (drop x.logs os)) e) in
    let tail = blocks_long irr j m a a' (take x.logs os) ms e in
    (λ i. head i ∷ tail i)

-- the state of a machine with these fields
abbrev pub state_of : Bool → List Old → List ℕ → List ℕ → List Old → List Mark → Actions → Bool → State
state_of irr j m a os marks acts wrote = record { memory = m; arena = a; blocks = blocks_of irr j m a os marks; actions = acts; wrote = wrote; irrevocable = irr }

-- the innermost block rolled back
pub back_is : (irr : Bool) (j : List Old) (m : List ℕ) (j' : List Old) (m' : List ℕ) (a a' : List ℕ) (os os' : List Old) (marks : List Mark) (x : Mark) (acts acts' : Actions) (wrote : Bool) → irr ≡ false
    → m' ≡ put_back (drop x.at j) m → Restores x.at j m j' m' → AreUnder x.at x.logs (reverse marks)
    → a' ≡ put_back (drop x.logs os) a → os' ≡ take x.logs os → AreWithin (length a) (drop x.logs os) → acts' ≡ cut_back x.actions.commits x.actions.undos acts
    → state_of irr j' m' a' os' marks acts' x.wrote ≡ back (state_of irr j m a os (marks ++ x ∷ []) acts wrote)
back_is true j m j' m' a a' os os' marks x acts acts' wrote h e r u f g w n = absurd (true≢false h)
back_is false j m j' m' a a' os os' marks x acts acts' wrote h e r u f g w n =
    let blocks : blocks_of false j m a os (marks ++ x ∷ []) ≡ block_of false j m a os x ∷ blocks_from false j m a (take x.logs os) (reverse marks) = ap (λ t. blocks_from false j m a os t) (reverse-append marks (x ∷ [])) in
    let long : length a' ≡ length a = ap (length {A = ℕ}) f ∙ length-put_back (drop x.logs os) a w in
    let same : blocks_of false j' m' a' os' marks ≡ blocks_from false j m a (take x.logs os) (reverse marks) =
    ap (λ t. blocks_from false j' m' a' t (reverse marks)) g ∙ (blocks_long false j' m' a a' (take x.logs os) (reverse marks) long ∙ blocks_same false j m j' m' a (take x.logs os) x.at x.logs (reverse marks) u r) in
    let arena = f ∙ restored_kept (map bytes_in (drop x.logs os)) a (all_map _ bytes_in (drop x.logs os) w) in
    let there : state_of false j' m' a' os' marks acts' x.wrote ≡ record { memory = put_back (drop x.at j) m; arena = restored (kept_of a (drop x.logs os)) a; blocks = blocks_from false j m a (take x.logs os) (reverse marks); actions = cut_back x.actions.commits x.actions.undos acts; wrote = x.wrote; irrevocable = false } =
    (λ i. record { memory = e i; arena = arena i; blocks = same i; actions = n i; wrote = x.wrote; irrevocable = false }) in
    let s : List Block → State = λ bs. record { memory = m; arena = a; blocks = bs; actions = acts; wrote = wrote; irrevocable = false } in
    there ∙ sym (ap (λ bs. back (s bs)) blocks)

-- ## An irrevocable transaction

goes_back_to_none : (s : State) (j : List Old) (m a : List ℕ) (os : List Old) (rs : List Mark) → undone_from s (blocks_from true j m a os rs) ≡ s
goes_back_to_none s j m a os [] = refl
goes_back_to_none s j m a os (x ∷ rs) = goes_back_to_none s j m a (take x.logs os) rs

-- it is not rolled back
pub undone_nothing : (irr : Bool) (j : List Old) (m a : List ℕ) (os : List Old) (marks : List Mark) (acts : Actions) (wrote : Bool) → irr ≡ true
    → state_of irr j m a os marks acts wrote ≡ undone (state_of irr j m a os marks acts wrote)
undone_nothing false j m a os marks acts wrote h = absurd (true≢false (sym h))
undone_nothing true j m a os marks acts wrote h = sym (goes_back_to_none (state_of true j m a os marks acts wrote) j m a os (reverse marks))

-- nor is its innermost block
back_nothing_from : (s : State) (j : List Old) (m a : List ℕ) (os : List Old) (rs : List Mark) → s.blocks ≡ blocks_from true j m a os rs → s ≡ back s
back_nothing_from s j m a os [] e = sym (ap (back_from s) e)
back_nothing_from s j m a os (x ∷ rs) e = sym (ap (back_from s) e)

pub back_nothing : (irr : Bool) (j : List Old) (m a : List ℕ) (os : List Old) (marks : List Mark) (acts : Actions) (wrote : Bool) → irr ≡ true
    → state_of irr j m a os marks acts wrote ≡ back (state_of irr j m a os marks acts wrote)
back_nothing false j m a os marks acts wrote h = absurd (true≢false (sym h))
back_nothing true j m a os marks acts wrote h = back_nothing_from (state_of true j m a os marks acts wrote) j m a os (reverse marks) refl

-- none of its blocks keeps anything
dropped_from : (j : List Old) (m a : List ℕ) (os : List Old) (rs : List Mark) → blocks_from true j m a os rs ≡ map (λ (b : Block). record b { saved = None }) (blocks_from false j m a os rs)
dropped_from j m a os [] = refl
dropped_from j m a os (x ∷ rs) = ap (λ t. block_of true j m a os x ∷ t) (dropped_from j m a (take x.logs os) rs)

pub made_irrevocable_is : (irr : Bool) (j : List Old) (m a : List ℕ) (os : List Old) (marks : List Mark) (acts : Actions) (wrote : Bool) → irr ≡ false
    → state_of true j m a os marks (record acts { undos = [] }) true ≡ irrevocable_from (state_of irr j m a os marks acts wrote)
made_irrevocable_is true j m a os marks acts wrote h = absurd (true≢false h)
made_irrevocable_is false j m a os marks acts wrote h =
    ap (λ bs. record { memory = m; arena = a; blocks = bs; actions = record acts { undos = [] }; wrote = true; irrevocable = true }) (dropped_from j m a os (reverse marks))

-- ## The innermost block closed

-- the actions once the innermost block has closed, with these blocks around it
abbrev pub actions_closed : List Mark → Actions → Actions
actions_closed [] acts = committed acts
actions_closed (x ∷ xs) acts = acts

-- and whether the transaction is irrevocable
abbrev pub mode_closed : List Mark → Bool → Bool
mode_closed [] irr = false
mode_closed (x ∷ xs) irr = irr

stay : (ms : List Mark) (acts : Actions) (irr : Bool) → 0 < length ms → (acts ≡ actions_closed ms acts) × (irr ≡ mode_closed ms irr)
stay [] acts irr h = absurd (omega (arith, h))
stay (x ∷ xs) acts irr h = (refl, refl)

-- with a block around it both stay
pub both_stay : (ms : List Mark) (acts : Actions) (irr : Bool) → 0 < length ms → (acts ≡ actions_closed (reverse ms) acts) × (irr ≡ mode_closed (reverse ms) irr)
both_stay ms acts irr h = stay (reverse ms) acts irr (omega (arith, h, length-reverse ms))

handed_on : (irr : Bool) (outer inner : Saved) → saved_in irr (record outer { kept = merged outer.kept inner.kept }) ≡ handed (saved_in irr outer) (saved_in irr inner)
handed_on true outer inner = refl
handed_on false outer inner = refl

closed_from : (irr : Bool) (j : List Old) (m a : List ℕ) (os : List Old) (rs : List Mark) (x : Mark) (acts : Actions) (wrote : Bool) → x.logs ≤ length os → AreUnder x.at x.logs rs
    → record { memory = m; arena = a; blocks = blocks_from irr j m a os rs; actions = actions_closed rs acts; wrote = wrote; irrevocable = mode_closed rs irr }
    ≡ closed (record { memory = m; arena = a; blocks = blocks_from irr j m a os (x ∷ rs); actions = acts; wrote = wrote; irrevocable = irr })
closed_from irr j m a os [] x acts wrote l u = refl
closed_from irr j m a os (y ∷ ys) x acts wrote l u =
    let whole : drop y.logs os ≡ drop y.logs (take x.logs os) ++ drop x.logs os =
    ap (drop y.logs) (sym (take-append-drop x.logs os)) ∙ drop-append-le y.logs (take x.logs os) (drop x.logs os) (omega (arith, u.1, length-take-le x.logs os l)) in
    let kept : kept_of a (drop y.logs os) ≡ merged (kept_of a (drop y.logs (take x.logs os))) (kept_of a (drop x.logs os)) = ap (kept_of a) whole ∙ kept_of-append a (drop y.logs (take x.logs os)) (drop x.logs os) in
    let rest : blocks_from irr j m a (take y.logs os) ys ≡ blocks_from irr j m a (take y.logs (take x.logs os)) ys = ap (λ t. blocks_from irr j m a t ys) (sym (take-take y.logs x.logs os u.1)) in
    let outer = saved_of j m a (take x.logs os) y in
    let saved : (block_of irr j m a os y).saved ≡ handed (saved_in irr outer) (saved_in irr (saved_of j m a os x)) =
    ap (λ t. (block_with irr y (put_back (drop y.at j) m) t).saved) kept ∙ handed_on irr outer (saved_of j m a os x) in
    (λ i. record { memory = m; arena = a; blocks = record { props = y.props; saved = saved i } ∷ rest i; actions = acts; wrote = wrote; irrevocable = irr })

pub closed_is : (irr irr' : Bool) (j : List Old) (m a : List ℕ) (os : List Old) (marks : List Mark) (x : Mark) (acts acts' : Actions) (wrote : Bool) → x.logs ≤ length os → AreUnder x.at x.logs (reverse marks)
    → acts' ≡ actions_closed (reverse marks) acts → irr' ≡ mode_closed (reverse marks) irr
    → record (state_of irr j m a os marks acts' wrote) { irrevocable = irr' } ≡ closed (state_of irr j m a os (marks ++ x ∷ []) acts wrote)
closed_is irr irr' j m a os marks x acts acts' wrote l u n w =
    (λ i. record (state_of irr j m a os marks (n i) wrote) { irrevocable = w i })
    ∙ (closed_from irr j m a os (reverse marks) x acts wrote l u
    ∙ sym (ap (λ t. closed (record { memory = m; arena = a; blocks = blocks_from irr j m a os t; actions = acts; wrote = wrote; irrevocable = irr })) (reverse-append marks (x ∷ []))))

-- ## The innermost block has logged

log_kept : (irr : Bool) (arena : List ℕ) (p n : ℕ) (saved : Saved)
    → saved_in irr (record saved { kept = also_kept saved.kept arena p n }) ≡ option_map {T = Saved} (λ (t : Saved). record t { kept = also_kept t.kept arena p n }) (saved_in irr saved)
log_kept true arena p n saved = refl
log_kept false arena p n saved = refl

pub logged_is : (irr : Bool) (j : List Old) (m a : List ℕ) (os os' : List Old) (rs : List Mark) (top p n : ℕ) → AreUnder top (length os) rs → Logged a p n os os'
    → blocks_from irr j m a os' rs ≡ logged_in (blocks_from irr j m a os rs) a p n
logged_is irr j m a os os' [] top p n u g = refl
logged_is irr j m a os os' (x ∷ rs) top p n u g =
    let h = g x.logs u.1 in
    let saved = ap (λ t. (block_with irr x (put_back (drop x.at j) m) t).saved) h.1 ∙ log_kept irr a p n (saved_of j m a os x) in
    (λ i. record { props = x.props; saved = saved i } ∷ blocks_from irr j m a (h.0 i) rs)

-- an irrevocable transaction keeps nothing of it
pub logged_nothing : (irr : Bool) (j : List Old) (m a : List ℕ) (os : List Old) (rs : List Mark) (p n : ℕ) → irr ≡ true → blocks_from irr j m a os rs ≡ logged_in (blocks_from irr j m a os rs) a p n
logged_nothing false j m a os rs p n h = absurd (true≢false (sym h))
logged_nothing true j m a os [] p n h = refl
logged_nothing true j m a os (x ∷ rs) p n h = refl

-- ## How many blocks, and whether one has a property

length-blocks_from : (irr : Bool) (j : List Old) (m a : List ℕ) (os : List Old) (rs : List Mark) → length (blocks_from irr j m a os rs) ≡ length rs
length-blocks_from irr j m a os [] = refl
length-blocks_from irr j m a os (x ∷ rs) = ap suc (length-blocks_from irr j m a (take x.logs os) rs)

pub length-blocks_of : (irr : Bool) (j : List Old) (m a : List ℕ) (os : List Old) (marks : List Mark) → length (blocks_of irr j m a os marks) ≡ length marks
length-blocks_of irr j m a os marks = length-blocks_from irr j m a os (reverse marks) ∙ length-reverse marks

-- one mark less is one block less
pub fewer_blocks : (irr : Bool) (j j' : List Old) (m m' a a' : List ℕ) (os os' : List Old) (marks rest : List Mark) (x : Mark) (acts : Actions) (wrote : Bool) (s : State)
    → state_of irr j m a os marks acts wrote ≡ s → marks ≡ rest ++ x ∷ [] → length (blocks_of irr j' m' a' os' rest) ≡ length s.blocks - 1
fewer_blocks irr j j' m m' a a' os os' marks rest x acts wrote s v e =
    let old = length-blocks_of irr j m a os marks in
    let new = length-blocks_of irr j' m' a' os' rest in
    let view : length (blocks_of irr j m a os marks) ≡ length s.blocks = ap (λ (t : State). length t.blocks) v in
    let one : length marks ≡ length rest + 1 = ap (length {A = Mark}) e ∙ length-append rest (x ∷ []) in
    omega (arith, old, new, view, one)

-- a block is open where there is a mark
pub one_open : (irr : Bool) (j : List Old) (m a : List ℕ) (os : List Old) (marks : List Mark) (acts : Actions) (wrote : Bool) (s : State) → state_of irr j m a os marks acts wrote ≡ s → 0 < length marks → 0 < length s.blocks
one_open irr j m a os marks acts wrote s v h =
    let blocks = length-blocks_of irr j m a os marks in
    let view : length (blocks_of irr j m a os marks) ≡ length s.blocks = ap (λ (t : State). length t.blocks) v in
    omega (arith, blocks, view, h)

has_from : (f : Props → Bool) (irr : Bool) (j : List Old) (m a : List ℕ) (os : List Old) (rs : List Mark) → list_any (λ (x : Mark). f x.props) rs ≡ list_any (λ (b : Block). f b.props) (blocks_from irr j m a os rs)
has_from f irr j m a os [] = refl
has_from f irr j m a os (x ∷ rs) = ap (λ t. f x.props || t) (has_from f irr j m a (take x.logs os) rs)

-- the blocks have a property where the marks do
pub any_has : (f : Props → Bool) (irr : Bool) (j : List Old) (m a : List ℕ) (os : List Old) (marks : List Mark) → list_any (λ (x : Mark). f x.props) marks ≡ list_any (λ (b : Block). f b.props) (blocks_of irr j m a os marks)
any_has f irr j m a os marks =
    list_any-IsPermutation (λ (x : Mark). f x.props) marks (reverse marks) (IsPermutation-reverse marks) ∙ has_from f irr j m a os (reverse marks)
