-- How much a player has left to do falls with each call.
use Rattle.std.proofs.Common.{◌≡◌, ℕ, ◌+◌, ◌-◌, ◌<◌, ◌≤◌, Bool, true, false, if◌then◌else◌, refl, ap, arith}
use Rattle.run_rules.proofs.Common.{Falls, IsNested, Obeys, Rules}
use Rattle.run_rules.proofs.Players.{Played, rank_less, rank_most, rank_same}

module _ {P : Type 0} (rules : Rules P) (retries restarts : ℕ) where
  module _ (laws : Obeys rules) where
    -- a reply, in the same try
    pub falls_reply : {was now : Bool} {p q : P} (nth left left' : ℕ) → left' ≤ left → Played rules laws was now p q → Falls rules retries restarts was now nth nth left left' p q
    falls_reply nth left left' few played = record {
      whole_falls = played.whole_falls;
      rank_falls = λ k within. rank_same _ _ k _ _ (rank_most _ _ restarts left left' (rank_most _ _ retries (retries + 1 - nth) (retries + 1 - nth) played.whole_falls (omega arith)) few) played.less;
    }

    -- the block is done
    pub falls_close : {p q : P} (nth left left' : ℕ) → left' ≤ restarts → IsNested rules true p → Played rules laws true false p q → Falls rules retries restarts true false nth 1 left left' p q
    falls_close {p} {q} nth left left' few nested played =
        let fewer : rules.calls_left q < rules.calls_left (rules.restarted p) = omega (arith, played.less, nested.less refl) in
        record {
          whole_falls = played.whole_falls;
          rank_falls = λ k within. rank_less _ _ k _ _ (rank_less _ _ restarts left left' (rank_less _ _ retries (retries + 1 - nth) (retries + 1 - 1) fewer (omega arith)) few) (omega (arith, fewer, within));
        }

  -- a try came to nothing: its player is where it began the block, or begins it
  pub falls_try : (was : Bool) (nth left left' : ℕ) (p : P) → nth ≤ retries → left' ≤ restarts → Falls rules retries restarts was false nth (nth + 1) left left' p (if was then rules.restarted p else p)
  falls_try true nth left left' p few within = record { whole_falls = omega arith; rank_falls = λ k most. rank_less _ _ k _ _ (rank_less _ _ restarts left left' (omega arith) within) most }
  falls_try false nth left left' p few within = record { whole_falls = omega arith; rank_falls = λ k most. rank_less _ _ k _ _ (rank_less _ _ restarts left left' (omega arith) within) most }

  -- the innermost block goes back to its begin
  pub falls_back : (nth left left' : ℕ) (p : P) → IsNested rules true p → left' < left → Falls rules retries restarts true true nth nth left left' p (rules.at_block p (rules.depth p))
  falls_back nth left left' p nested fewer =
      let b = nested.blocks (rules.depth p) nested.deep (omega arith) in
      let same : rules.calls_left (rules.restarted (rules.at_block p (rules.depth p))) ≡ rules.calls_left (rules.restarted p) = ap rules.calls_left b.same in
      record {
        whole_falls = omega (arith, same, b.less);
        rank_falls = λ k within. rank_less _ _ k _ _ (rank_same _ _ restarts left left' (rank_most _ _ retries (retries + 1 - nth) (retries + 1 - nth) (omega (arith, same, b.less)) (omega arith)) fewer) (omega (arith, same, b.less));
      }
