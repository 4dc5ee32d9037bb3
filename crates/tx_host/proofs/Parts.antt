-- A pass that gives a part to each worker.
use Rattle.std.proofs.Common.{◌≡◌, ℕ, ◌+◌, ◌-◌, ◌<◌, false, List, replicate, sym, ap, subst, ◌∙◌, arith}
use Rattle.tx_host.proofs.Common.{IsFor, IsReady, IsUnused, Limits, Listing, Ready, View, view_of}
use Rattle.norec_core.{specs.Core.Core, specs.Core.in_transaction, specs.Core.opening}
use Rattle.worker_rules.{specs.Gates.Gating, specs.Worked.Worked, specs.Works.Works}
use Rattle.report_rules.specs.Fresh.{IsFresh, MayBegin, code_of}
use Rattle.shared_words.{specs.declared.pass.Pass.Pass, specs.InGlobal.Words, specs.Views.cut_left, specs.Views.cut_right}
use Rattle.call_rules.specs.Standing.{Standing}
use Rattle.script_vm.{specs.Threads.Thread, specs.Threads.opening as script_opening, specs.Threads.thread_rules, specs.Threads.depth_of}
use Rattle.tx_host.specs.declared.start.WorksOn.{WorksOn}

module _ (s v w : View) (same : v ≡ record s { share = v.share }) (cut : w ≡ cut_left v) where
  pub cut_same : w ≡ record s { share = w.share }
  cut_same = cut ∙ (ap (λ (z : View). record z { share = v.share - 1 }) same ∙ ap (λ (n : ℕ). record s { share = n }) (sym (ap (λ (z : View). z.share) cut)))

  pub cut_share : (n : ℕ) → 0 < v.share → v.share + n ≡ s.share → w.share + (n + 1) ≡ s.share
  cut_share n more e = let now : w.share ≡ v.share - 1 = ap (λ (z : View). z.share) cut in omega arith

-- a thread over a part that was cut is fresh
pub is_fresh : (s v : View) (theirs : Pass) (p : Listing) (number : ℕ) (t : Standing) (player : Thread) → IsUnused s → v ≡ record s { share = v.share } → view_of theirs ≡ cut_right v → t.pass ≡ theirs → (words : ℕ) (arena : List ℕ) (size : ℕ) (limits : Limits)
    → t.engine ≡ opening words arena limits.patience limits.max_commits limits.depth limits.restarts → arena ≡ replicate size 0 → size ≡ p.arena → limits ≡ p.limits → player ≡ script_opening p.limits.depth (code_of p number) → IsFresh p s.base number t player
is_fresh s v theirs p number t player unused same cut pass words arena size limits engine zeros sized within plays =
    record {
      player_is = plays;
      words = words;
      engine_is = engine ∙ (λ i. opening words ((zeros ∙ ap (λ (n : ℕ). replicate n 0) sized) i) (within i).patience (within i).max_commits (within i).depth (within i).restarts);
      pass_is = ap view_of pass ∙ (cut ∙ (ap cut_right same ∙ ap cut_right unused));
    }

-- who starts a worker on what is ready has its promise
pub is_for : {G : Type 0} (words : Words) (base : List ℕ) (p : Listing) (n retries : ℕ) (r : Ready) (w : WorksOn G) → IsReady words base p n r → retries ≡ p.limits.retries
    → (w.words.now ≡ words) × (w.start.value ≡ r.thread) × (w.player.value ≡ r.player) × (w.number ≡ r.number) × (w.retries ≡ retries) → IsFor words base p n w
is_for words base p n retries r w is few told = record {
  words_are = told.0;
  number_is = told.3 ∙ is.number_is;
  retries_are = told.4 ∙ few;
  begins = subst (λ (q : Standing × Thread). MayBegin words p base n q.0 q.1) (λ i. (sym told.1 i, sym told.2 i)) is.begins;
}

-- a worker that keeps it did what the thread with its number does
pub works_for : {G : Type 0} (words : Words) (base : List ℕ) (p : Listing) (n : ℕ) (gate : Gating) (w : WorksOn G) (r : Worked) → IsFor words base p n w → Works thread_rules w.words.now w.start.value w.player.value w.number w.retries gate r
    → Works thread_rules words w.start.value w.player.value n p.limits.retries gate r
works_for words base p n gate w r is kept = subst (λ (q : Words × ℕ × ℕ). Works thread_rules q.0 w.start.value w.player.value q.1 q.2 gate r) (λ i. (is.words_are i, is.number_is i, is.retries_are i)) kept

-- before its first call it is outside a transaction
pub is_outside : (base : List ℕ) (p : Listing) (n : ℕ) (t : Standing) (player : Thread) → IsFresh p base n t player → in_transaction t.engine ≡ false
is_outside base p n t player fresh = ap in_transaction fresh.engine_is

-- its inner blocks may go back as often as the program's limits say
pub is_limited : (base : List ℕ) (p : Listing) (n : ℕ) (t : Standing) (player : Thread) → IsFresh p base n t player → t.engine.restarts ≡ p.limits.restarts
is_limited base p n t player fresh = ap (λ (c : Core). c.restarts) fresh.engine_is

-- and its player has no block open
pub is_flat : (base : List ℕ) (p : Listing) (n : ℕ) (t : Standing) (player : Thread) → IsFresh p base n t player → depth_of player ≡ 0
is_flat base p n t player fresh = ap depth_of fresh.player_is
