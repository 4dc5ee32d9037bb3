-- A player and the begins of its open inner blocks, by its calls: where it goes back to is where the calls up to a begin lead.
use Rattle.std.proofs.Common.{◌≡◌, ℕ, suc, ◌+◌, ◌<◌, ◌≤◌, Bool, true, false, List, [], ◌∷◌, ◌++◌, length, take, Option, Some, refl, sym, ap, ◌∙◌, arith, length-append, if◌then◌else◌, nat_lt, drop}
use Rattle.run_rules.proofs.Common.{Call, CallRecord, Code, Done, HasBlocks, IsAt, Knows, Obeys, Reply, Rules, abort_of, depth_after, depth_by, is_begin, is_code, is_commit, le-ltb, length-take, lt-ltb, open_after, open_by, player_snoc, player_then, take-append-le, take-take}
use Rattle.run_rules.{proofs.BlocksAgain.taken, proofs.Players.is_opened}

module _ {P : Type 0} (rules : Rules P) (first : P) where
  -- it is so just after the begin of the outermost block was accepted
  pub none_begun : Obeys rules → (p : P) (c : Call) (r : Reply) → first ≡ rules.answered p r → rules.next_call p ≡ Some c → rules.depth p ≡ 0 → 0 < depth_after (rules.depth p) c r → IsAt rules first [] first []
  none_begun laws p c r is asks none some =
      let o = is_opened (rules.depth p) c r (omega arith) in
      record { player = refl; depth = ap rules.depth is ∙ (laws.nests p c r asks ∙ (o.now ∙ ap suc none)); knows = tt }

  knows_more : (made : List CallRecord) (few many : ℕ) (p : P) (begins : List ℕ) → few ≤ many → Knows rules first made few p begins → Knows rules first made many p begins
  knows_more made few many p [] l k = tt
  knows_more made few many p (n ∷ rest) l k = ((let within = k.0 in omega arith), k.1, k.2)

  -- of a player that goes back where another does, with calls that begin alike, it knows the same
  knows_as : (made made' : List CallRecord) (p q : P) (d few : ℕ) → ((e : ℕ) → 0 < e → e ≤ d → rules.at_block q e ≡ rules.at_block p e) → ((n : ℕ) → n ≤ few → take n made' ≡ take n made)
      → (most : ℕ) (begins : List ℕ) → most ≤ few → suc (length begins) ≤ d → Knows rules first made most p begins → Knows rules first made' most q begins
  knows_as made made' p q d few back alike most [] l u k = tt
  knows_as made made' p q d few back alike most (n ∷ rest) l u k =
      let all : n ≤ few = omega (arith, k.0, l) in (
        k.0,
        back (suc (suc (length rest))) (omega arith) (omega arith) ∙ (k.1 ∙ ap (player_then rules.answered first) (sym (alike n all))),
        knows_as made made' p q d few back alike n rest all (omega arith) k.2,
      )

  -- ## One call more

  module _ (made : List CallRecord) (x : CallRecord) (p q : P) (now : ℕ) (here : q ≡ player_then rules.answered first (made ++ x ∷ []))
      (law : (d : ℕ) → 0 < d → d ≤ now → rules.at_block q d ≡ (if nat_lt (rules.depth p) d then rules.answered p (Code 5) else rules.at_block p d)) where
    still : (most : ℕ) (begins : List ℕ) → most ≤ length made → suc (length begins) ≤ rules.depth p → suc (length begins) ≤ now → Knows rules first made most p begins → Knows rules first (made ++ x ∷ []) most q begins
    still most begins few l u k = knows_as made (made ++ x ∷ []) p q (suc (length begins)) (length made)
        (λ e some far. law e some (omega (arith, far, u)) ∙ ap (λ (b : Bool). if b then rules.answered p (Code 5) else rules.at_block p e) (le-ltb (rules.depth p) e (omega (arith, far, l))))
        (λ n within. take-append-le n made (x ∷ []) within) most begins few (omega arith) k

    opened : (begins : List ℕ) → rules.depth p ≡ suc (length begins) → now ≡ suc (suc (length begins)) → q ≡ rules.answered p (Code 5) → Knows rules first made (length made) p begins
        → Knows rules first (made ++ x ∷ []) (length (made ++ x ∷ [])) q (suc (length made) ∷ begins)
    opened begins d n is k = (
      (let more = length-append made (x ∷ []) in omega arith),
      law (suc (suc (length begins))) (omega arith) (omega arith)
          ∙ (ap (λ (b : Bool). if b then rules.answered p (Code 5) else rules.at_block p (suc (suc (length begins)))) (lt-ltb (rules.depth p) (suc (suc (length begins))) (omega arith))
          ∙ (sym is ∙ (here ∙ ap (player_then rules.answered first) (sym (taken made x []))))),
      knows_more (made ++ x ∷ []) (length made) (suc (length made)) q begins (omega arith) (still (length made) begins (omega arith) (omega arith) (omega arith) k),
    )

    -- what is to be known then
    abbrev Then : List ℕ → Type 0
    Then begins = Knows rules first (made ++ x ∷ []) (length (made ++ x ∷ [])) q begins × (now ≡ suc (length begins))

    kept : (most : ℕ) (begins : List ℕ) → most ≤ length made → suc (length begins) ≤ rules.depth p → now ≡ suc (length begins) → Knows rules first made most p begins → Then begins
    kept most begins few d n k = (knows_more (made ++ x ∷ []) most (length (made ++ x ∷ [])) q begins (let more = length-append made (x ∷ []) in omega arith) (still most begins few d (omega arith) k), n)

    closed : (begins : List ℕ) → rules.depth p ≡ suc (length begins) → now + 1 ≡ rules.depth p → 0 < now → Knows rules first made (length made) p begins → Then (drop 1 begins)
    closed [] d n u k = absurd (omega arith)
    closed (m ∷ rest) d n u k = (let within = k.0 in kept m rest within (omega arith) (omega arith) k.2)

    step_by : (b c : Bool) (o : Option Bool) (r : Reply) (begins : List ℕ) → rules.depth p ≡ suc (length begins) → Knows rules first made (length made) p begins → now ≡ depth_by b c o (rules.depth p) r → 0 < now
        → (b ≡ true → is_code r ≡ true → q ≡ rules.answered p (Code 5)) → Then (open_by b c o (suc (length made)) begins r)
    step_by true c o (Code n) begins d k is u five = (opened begins d (omega arith) (five refl refl) k, omega arith)
    step_by false true o Done begins d k is u five = closed begins d (omega arith) u k
    step_by false false (Some true) (Code n) begins d k is u five = absurd (omega arith)
    step_by false false (Some false) (Code n) begins d k is u five = closed begins d (omega arith) u k
    step_by b c o r begins d k is u five = kept (length made) begins (omega arith) (omega arith) (is ∙ d) k

  -- one call more within the outermost block, where a begin that is accepted is told that its block is entered
  pub one_more : Obeys rules → (made : List CallRecord) (p : P) (begins : List ℕ) (x : CallRecord) → IsAt rules first made p begins → rules.next_call p ≡ Some x.call → 0 < depth_after (rules.depth p) x.call x.reply
      → (is_begin x.call ≡ true → is_code x.reply ≡ true → x.reply ≡ Code 5) → IsAt rules first (made ++ x ∷ []) (rules.answered p x.reply) (open_after (suc (length made)) begins x)
  one_more laws made p begins x at asks within five =
      let here : rules.answered p x.reply ≡ player_then rules.answered first (made ++ x ∷ []) = ap (λ (y : P). rules.answered y x.reply) at.player ∙ sym (player_snoc rules.answered first made x) in
      let next = step_by made x p (rules.answered p x.reply) (depth_after (rules.depth p) x.call x.reply) here (laws.begins p x.call x.reply asks)
      (is_begin x.call) (is_commit x.call) (abort_of x.call) x.reply begins at.depth at.knows refl within (λ b c. ap (rules.answered p) (five b c)) in
      record { player = here; depth = laws.nests p x.call x.reply asks ∙ next.1; knows = next.0 }

  -- ## Back to a begin

  -- where the innermost block goes back to its begin, the player is where the calls up to it lead, and it knows what it knew there
  pub goes_back : (made : List CallRecord) (p : P) (k : ℕ) (rest : List ℕ) → HasBlocks rules p → IsAt rules first made p (k ∷ rest) → IsAt rules first (take k made) (rules.at_block p (rules.depth p)) (k ∷ rest)
  goes_back made p k rest has at =
      let depth = at.depth in
      let within = at.knows.0 in
      let few = length-take k made in
      let q : P = rules.at_block p (rules.depth p) in
      let b = has (rules.depth p) (omega arith) (omega arith) in
      record {
        player = ap (rules.at_block p) at.depth ∙ at.knows.1;
        depth = b.depth ∙ at.depth;
        knows = (
          omega arith,
          b.around (suc (suc (length rest))) (omega arith) (omega arith) ∙ (at.knows.1 ∙ ap (player_then rules.answered first) (sym (take-take k k made (omega arith)))),
          knows_as made (take k made) p q (rules.depth p) k b.around (λ n within. take-take n k made within) k rest (omega arith) (omega arith) at.knows.2,
        );
      }
