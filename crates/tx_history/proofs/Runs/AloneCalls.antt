-- An opaque attempt is one alone on the memory of its position.
use Rattle.std.proofs.Common.{◌≡◌, ℕ, zero, suc, Bool, true, false, true≢false, if◌then◌else◌, inr, All, List, [], ◌∷◌, ◌++◌, map, Option, None, Some, refl, sym, ap, subst, ◌∙◌}
use Rattle.tx_history.proofs.Common.{All-cons, All-nil, Attempt, Breaks, Call, CallRecord, Cancelled, Committed, EndsAs, EndsIn, Full, IsAlone, IsOpaque, Outcome, ReadOnly, Reply, Rules, State, after, alone, breaks_of, gets_through, is_open, later, may_begin, opened, pair_of, ran_alone, ran_of, replies_through, reply, state_through, turn}
use Rattle.tx_attempts.proofs.AloneCalls.{breaks_after}
use Rattle.tx_history.proofs.Runs.UnwrittenTransactions.{AllInside, Keeps, StandsOn, stands_after, stands_again, stands_held, stands_opened}

-- the calls of entries
abbrev calls_in : List CallRecord → List Call
calls_in xs = map (λ (e : CallRecord). e.call) xs

pub same_head : {A : Type 0} (x y : A) (xs ys : List A) → x ∷ xs ≡ y ∷ ys → x ≡ y
same_head x y xs ys e = cc

pub same_tail : {A : Type 0} (x y : A) (xs ys : List A) → x ∷ xs ≡ y ∷ ys → xs ≡ ys
same_tail x y xs ys e = cc

module _ {P : Type 0} (next : P → Option Call) (answered : P → Reply → P) (left : P → ℕ) (deepest : ℕ) where
  -- a player calls this next
  abbrev pub IsAsked : CallRecord → Type 0
  IsAsked x = (p : P) × (next p ≡ Some x.call)

  abbrev gets : ℕ → Breaks → P → State → Option Call → List (Call × Reply)
  gets n breaks p s o = gets_through next answered left deepest n breaks p s o

  -- a beginning of what a player gets: its replies are the plain machine's, each call is made in an open block, and is the player's next
  pub told : (breaks : Breaks) (xs : List CallRecord) (rest : List (Call × Reply)) (n : ℕ) (p : P) (s : State) (o : Option Call) → turn next answered left p s ≡ o → map pair_of xs ++ rest ≡ gets n breaks p s o
      → (map (λ (e : CallRecord). e.reply) xs ≡ replies_through deepest breaks s (calls_in xs)) × AllInside deepest breaks s (calls_in xs) × All IsAsked xs
  told breaks [] rest n p s o t e = (refl, tt, All-nil IsAsked)
  told breaks (x ∷ xs) rest zero p s o t e = absurd (cc)
  told breaks (x ∷ xs) rest (suc n) p s None t e = absurd (cc)
  told breaks (x ∷ xs) rest (suc n) p s (Some call) t e =
      let first = same_head _ _ _ _ e in
      let call_is : x.call ≡ call = ap (λ (c : Call × Reply). c.0) first in
      let reply_is : x.reply ≡ reply deepest s call = ap (λ (c : Call × Reply). c.1) first in
      let u = breaks 1 (after deepest s call) in
      let q = answered p (reply deepest s call) in
      let more : map pair_of xs ++ rest ≡ gets n (later breaks) q u (turn next answered left q u) = same_tail _ _ _ _ e in
      let others = told (later breaks) xs rest n q u _ refl more in
      let asked = asked_in (is_open s) t in (
        (λ i. (reply_is ∙ ap (reply deepest s) (sym call_is)) i ∷ (others.0 ∙ ap (λ (c : Call). replies_through deepest (later breaks) (breaks 1 (after deepest s c)) (calls_in xs)) (sym call_is)) i),
        (asked.0, subst (λ (c : Call). AllInside deepest (later breaks) (breaks 1 (after deepest s c)) (calls_in xs)) (sym call_is) others.1),
        All-cons IsAsked x xs (p, asked.1 ∙ ap (λ (c : Call). Some c) (sym call_is)) others.2,
      )
    where
      asked_in : (b : Bool) → (if b then next p else None) ≡ Some call → (b ≡ true) × (next p ≡ Some call)
      asked_in true e = (refl, e)
      asked_in false e = absurd (cc)

-- so do the breaks that come after these calls
past_kept : (S : State → Type 0) (xs : List CallRecord) (breaks : Breaks) → Keeps S breaks → Keeps S (breaks_after breaks xs)
past_kept S [] breaks h = h
past_kept S (x ∷ xs) breaks h = past_kept S xs (later breaks) (λ n s g. h (suc n) s g)

module _ (deepest : ℕ) where
  inside_split : (breaks : Breaks) (s : State) (xs ys : List CallRecord) → AllInside deepest breaks s (calls_in (xs ++ ys))
      → AllInside deepest breaks s (calls_in xs) × AllInside deepest (breaks_after breaks xs) (state_through deepest breaks s (calls_in xs)) (calls_in ys)
  inside_split breaks s [] ys i = (tt, i)
  inside_split breaks s (x ∷ xs) ys i = (let r = inside_split (later breaks) (breaks 1 (after deepest s x.call)) xs ys i.1 in ((i.0, r.0), r.1))

  state_split : (breaks : Breaks) (s : State) (xs ys : List CallRecord)
      → state_through deepest breaks s (calls_in (xs ++ ys)) ≡ state_through deepest (breaks_after breaks xs) (state_through deepest breaks s (calls_in xs)) (calls_in ys)
  state_split breaks s [] ys = refl
  state_split breaks s (x ∷ xs) ys = state_split (later breaks) (breaks 1 (after deepest s x.call)) xs ys

  -- a transaction that has not written at the end of its calls was never irrevocable
  never_irrevocable : (m : List ℕ) (breaks : Breaks) → Keeps (StandsOn m ⊥) breaks → Keeps (StandsOn m (Unit {0})) breaks → (s : State) (xs ys : List CallRecord) → StandsOn m ⊥ s → AllInside deepest breaks s (calls_in (xs ++ ys))
      → (state_through deepest breaks s (calls_in (xs ++ ys))).wrote ≡ false → (state_through deepest breaks s (calls_in xs)).irrevocable ≡ false
  never_irrevocable m breaks stands held s xs ys h i w = by_mode (state_through deepest breaks s (calls_in xs)).irrevocable refl
    where
      by_mode : (b : Bool) → (state_through deepest breaks s (calls_in xs)).irrevocable ≡ b → (state_through deepest breaks s (calls_in xs)).irrevocable ≡ false
      by_mode false e = e
      by_mode true e =
          let t = state_through deepest breaks s (calls_in xs) in
          let parts = inside_split breaks s xs ys i in
          let there : StandsOn m ⊥ t = stands_after deepest m ⊥ breaks stands s (calls_in xs) parts.0 h in
          let last : StandsOn m (Unit {0}) (state_through deepest (breaks_after breaks xs) t (calls_in ys)) =
          stands_after deepest m (Unit {0}) (breaks_after breaks xs) (past_kept (StandsOn m (Unit {0})) xs breaks held) t (calls_in ys) parts.1 (stands_held m t there e) in
          absurd (true≢false (sym (last.lasts (inr tt)).0 ∙ (ap (λ (t : State). t.wrote) (sym (state_split breaks s xs ys)) ∙ w)))

-- the actions that have run are told alike
ran_same : (o : Outcome) (s : State) → ran_of o s ≡ ran_alone o s
ran_same Full s = refl
ran_same o s = refl

module _ {P : Type 0} (rules : Rules P) (deepest : ℕ) (p : P) (a : Attempt) (n : ℕ) (memory : List ℕ) (opaque : IsOpaque rules deepest p a n memory) where
  abbrev breaks : Breaks
  breaks = breaks_of a.restarts

  abbrev start : State
  start = opened memory a.arena a.props

  -- what is so of its calls
  pub calls_told : (map (λ (e : CallRecord). e.reply) a.calls.list ≡ replies_through deepest breaks start (calls_in a.calls.list)) × AllInside deepest breaks start (calls_in a.calls.list) × All (IsAsked rules.next_call rules.answered rules.calls_left deepest) a.calls.list
  calls_told = told rules.next_call rules.answered rules.calls_left deepest breaks a.calls.list opaque.beginning.0 (rules.calls_left p) p start _ refl opaque.beginning.1

  ends_in : (o : Outcome) → EndsAs o (alone deepest memory a) → EndsIn deepest o memory a (alone deepest memory a)
  ends_in Committed e = e.0
  ends_in ReadOnly e = (
    e.0,
    (stands_after deepest memory ⊥ breaks (stands_again memory ⊥ a.restarts) start (calls_in a.calls.list) calls_told.1 (stands_opened deepest memory a.arena a.props)).memory e.1,
    λ before last is. never_irrevocable deepest memory breaks (stands_again memory ⊥ a.restarts) (stands_again memory (Unit {0}) a.restarts) start before (last ∷ []) (stands_opened deepest memory a.arena a.props)
        (subst (λ (xs : List CallRecord). AllInside deepest breaks start (calls_in xs)) is calls_told.1)
        (ap (λ (xs : List CallRecord). (state_through deepest breaks start (calls_in xs)).wrote) (sym is) ∙ e.1),
  )
  ends_in Cancelled e = e.0
  ends_in o e = e

  pub is_alone : may_begin a.props ≡ true → IsAlone deepest memory a
  is_alone begins = record {
    props = begins;
    replies = calls_told.0;
    stays_open = λ before e rest is.
        (inside_split deepest breaks start before (e ∷ rest) (subst (λ (xs : List CallRecord). AllInside deepest breaks start (calls_in xs)) is calls_told.1)).1.0;
    ends = ends_in a.outcome opaque.ends;
    closed = opaque.closed;
    ran = opaque.ran ∙ ran_same a.outcome (alone deepest memory a);
    again = opaque.again;
  }
