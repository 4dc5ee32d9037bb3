-- One more worker's pass is joined.
use Rattle.std.proofs.Common.{◌≡◌, ℕ, ◌+◌, ◌≤◌, false, List, [], ◌∷◌, ◌++◌, length, if◌then◌else◌, Bool, true, sym, refl, ap, ◌∙◌, subst, append_assoc, append-nil, arith}
use Rattle.report_rules.proofs.Common.{Attempt, Did, Done, Gathers, Gating, HeldAmong, Joined, Joins, Listing, MayBegin, Standing, Thread, View, Words, Worked, Works, attempts_in, is_committed, is_held, positions, thread_rules, threads_of, view_left}
use Rattle.report_rules.proofs.Numbers.{numbered_map, numbered_push}
use Rattle.report_rules.proofs.Passes.WorkerViews.{did_its, did_later, its_base, its_mine, its_share, joined_both}

pub positions_both : (xs ys : List Attempt) → positions (xs ++ ys) ≡ positions xs ++ positions ys
positions_both [] ys = refl
positions_both (x ∷ xs) ys =
    elim (is_committed x.outcome) as (λ (b : Bool). (if b then x.at ∷ positions (xs ++ ys) else positions (xs ++ ys)) ≡ (if b then x.at ∷ positions xs else positions xs) ++ positions ys) [
      | true ↦ ap (λ (ps : List ℕ). x.at ∷ ps) (positions_both xs ys)
      | false ↦ positions_both xs ys
    ]

pub attempts_push : (ds : List Done) (d : Done) → attempts_in (ds ++ d ∷ []) ≡ attempts_in ds ++ d.attempts
attempts_push [] d = append-nil d.attempts
attempts_push (x ∷ xs) d = ap (λ (l : List Attempt). x.attempts ++ l) (attempts_push xs d) ∙ sym (append_assoc x.attempts (attempts_in xs) d.attempts)

module _ (words : Words) (base : List ℕ) (p : Listing) (n : ℕ) (gate : Gating) (t : Standing) (player : Thread) (r : Worked) (is : MayBegin words p base n t player) (works : Works thread_rules words t player n p.limits.retries gate r) where
  -- a worker whose pass came back
  pub joins_more : (start now w : View) (all : List Done) (d : Done) → d ≡ record { attempts = r.attempts; end = r.end } → start.base ≡ base → length all ≡ n → is_held r.pass ≡ false → Joins words start p gate n now all → Joined now (view_left r.pass) w
      → Joins words start p gate (n + 1) w (all ++ d ∷ [])
  joins_more start now w all d d_is at many free old j =
      let u : View = view_left r.pass in
      let bases : now.base ≡ u.base = old.base ∙ (at ∙ sym (its_base words base p n gate t player r is works)) in
      let joined = joined_both now u w j bases in
      let did : Did words p gate w n d = subst (Did words p gate w n) (sym d_is) (did_later words p gate u w joined.1 n _ (did_its words base p n gate t player r is works free)) in
      let share : w.share ≡ now.share + u.share = j.share in
      let one : u.share ≡ 1 = its_share words base p n gate t player r is works in
      let before : now.share ≡ start.share + n = old.share in
      let attempts_are : d.attempts ≡ r.attempts = ap (λ (x : Done). x.attempts) d_is in
      let theirs : u.mine ≡ positions d.attempts = its_mine words base p n gate t player r is works ∙ ap positions (sym attempts_are) in
      let all_are : positions (attempts_in (all ++ d ∷ [])) ≡ positions (attempts_in all) ++ positions d.attempts = ap positions (attempts_push all d) ∙ positions_both (attempts_in all) d.attempts in
      record {
        base = j.base ∙ old.base;
        share = omega arith;
        mine = j.mine ∙ ((λ i. old.mine i ++ theirs i) ∙ (append_assoc start.mine (positions (attempts_in all)) (positions d.attempts) ∙ ap (λ (l : List ℕ). start.mine ++ l) (sym all_are)));
        workers = numbered_push (Did words p gate w) 0 n all d (omega arith) (numbered_map (Did words p gate now) (Did words p gate w) 0 all (λ k x. did_later words p gate now w joined.0 k x) old.workers) did;
      }

-- ## A worker whose pass did not come back

pub held_more : (words : Words) (p : Listing) (base : List ℕ) (gate : Gating) (n m : ℕ) → n ≤ m → HeldAmong words p base gate n → HeldAmong words p base gate m
held_more words p base gate n m l h = (h.0, h.1, (let few = h.2 in omega arith), h.3, h.4)

-- ## All of them

-- all parts are back
pub gathers : (words : Words) (p : Listing) (gate : Gating) (start given now : View) (all : List Done) (n : ℕ) → given ≡ record start { share = given.share } → given.share + length (threads_of p) ≡ start.share → n ≡ length (threads_of p) → length all ≡ n → now.holds ≡ false → Joins words given p gate n now all
    → Gathers words start p gate now all
gathers words p gate start given now all n same parts many count idle joins =
    let share : now.share ≡ given.share + n = joins.share in
    record {
      count = count ∙ many;
      idle = idle;
      joins = record {
        base = joins.base ∙ ap (λ (v : View). v.base) same;
        share = omega arith;
        mine = joins.mine ∙ ap (λ (l : List ℕ). l ++ positions (attempts_in all)) (ap (λ (v : View). v.mine) same);
        workers = joins.workers;
      };
    }
