-- Programs are within the limits of the version that tells of them.
use Rattle.std.proofs.Common.{◌≡◌, ◌≢◌, ◌⊎◌, ◌==◌, inl, inr, nat_le, ◌&&◌, ◌∙◌, ℕ, suc, ◌<◌, ◌≤◌, Bool, true, false, if◌then◌else◌, length, refl, sym, true≢false, ap, subst, arith, eqb-true, leb-true}
use Rattle.report_rules.proofs.Common.{IsLimitedListing, IsMemorySize, Listing, MAX_ACTORS, MAX_ARENA, MayRestart, One, Three, Two, USUAL_DEPTH, Version, both_true, depth_from, depth_of, is_early, lt-leb, ne_eqb, opening_of, thread_limit, threads_of, version_of}
use Rattle.itm_types.{specs.Limits.AreWithin, specs.declared.limits.Depth.Depth}
use Rattle.script_program.specs.Sizes.{IsSize}
use Rattle.tx_history.specs.declared.history.TheConstants.{EARLY_ACTORS, EARLY_MEMORY}
use Rattle.tx_history.proofs.SameDepths.{near_is, same_depth}

none_of : (x y z : Bool) → (x ≡ false) ⊎ (y ≡ false) ⊎ (z ≡ false) → (x && y && z) ≡ false
none_of true true true (inl e) = absurd (true≢false e)
none_of true true true (inr (inl e)) = absurd (true≢false e)
none_of true true true (inr (inr e)) = absurd (true≢false e)
none_of x y z e = refl

module _ (p : Listing) where
  abbrev chosen : Bool → Version
  chosen early = if early then (if p.limits.restarts == 0 then One else Two) else Three (depth_from p.limits.depth)

  early_parts : is_early p ≡ true → (p.limits.depth ≡ USUAL_DEPTH) × (p.memory.size ≤ EARLY_MEMORY) × (length (threads_of p) ≤ EARLY_ACTORS)
  early_parts e =
      let all = both_true ((p.limits.depth == USUAL_DEPTH) && nat_le p.memory.size EARLY_MEMORY) (nat_le (length (threads_of p)) EARLY_ACTORS) e in
      let first = both_true (p.limits.depth == USUAL_DEPTH) (nat_le p.memory.size EARLY_MEMORY) all.0 in
      (eqb-true p.limits.depth USUAL_DEPTH first.0, leb-true p.memory.size EARLY_MEMORY first.1, leb-true (length (threads_of p)) EARLY_ACTORS all.1)

  -- what is so of the first two versions, where one of them is chosen, and of the third one is so of the one that is chosen
  by_version : (Q : Version → Type 0) → (is_early p ≡ true → Q One × Q Two) → Q (Three (depth_from p.limits.depth)) → Q (version_of p)
  by_version Q early late = by_early (is_early p) refl
    where
      by_early : (b : Bool) → is_early p ≡ b → Q (chosen b)
      by_early true e = elim (p.limits.restarts == 0) as (λ (b : Bool). Q (if b then One else Two)) [ true ↦ (early e).0 | false ↦ (early e).1 ]
      by_early false e = late

  told_restarts : MayRestart (version_of p) p.limits.restarts
  told_restarts = elim (is_early p) as (λ (b : Bool). MayRestart (chosen b) p.limits.restarts) [ true ↦ by_limit (p.limits.restarts == 0) refl | false ↦ tt ]
    where
      by_limit : (b : Bool) → (p.limits.restarts == 0) ≡ b → MayRestart (if b then One else Two) p.limits.restarts
      by_limit true e = eqb-true p.limits.restarts 0 e
      by_limit false e = tt

  -- a program that the first two versions do not tell of is told of by the third one, with its depth
  pub told_by_three : (depth size threads : ℕ) (d : Depth) → depth ≡ p.limits.depth → size ≡ p.memory.size → threads ≡ length (threads_of p) → d.blocks ≡ depth
      → ((depth ≡ USUAL_DEPTH) × (size ≤ EARLY_MEMORY) × (EARLY_ACTORS < threads)) ⊎ ((depth ≡ USUAL_DEPTH) × (EARLY_MEMORY < size)) ⊎ (depth ≢ USUAL_DEPTH) → Three d ≡ version_of p
  told_by_three depth size threads d depth_is size_is threads_are same late =
      ap Three (same_depth d (depth_from p.limits.depth) (same ∙ (depth_is ∙ sym (near_is p.limits.depth (let some = d.some in omega arith) (let few = d.few in omega arith)))))
      ∙ sym (ap chosen (none_of (p.limits.depth == USUAL_DEPTH) (nat_le p.memory.size EARLY_MEMORY) (nat_le (length (threads_of p)) EARLY_ACTORS) (elim late [
        | inl many ↦ (let more = many.2 in inr (inr (lt-leb (length (threads_of p)) EARLY_ACTORS (omega arith))))
        | inr (inl large) ↦ (let more = large.1 in inr (inl (lt-leb p.memory.size EARLY_MEMORY (omega arith))))
        | inr (inr other) ↦ inl (ne_eqb p.limits.depth USUAL_DEPTH (λ e. other (depth_is ∙ e)))
      ])))

  -- so each program is, whose memory has the size that it says
  pub limited_listing : IsSize p.memory.size → length (opening_of p) ≡ p.memory.size → p.arena ≤ MAX_ARENA → AreWithin p.limits → length (threads_of p) ≤ MAX_ACTORS → IsLimitedListing p
  limited_listing sized long small within few = record {
    memory = subst (λ (n : ℕ). IsMemorySize (version_of p) n) (sym long) (by_version (λ (v : Version). IsMemorySize v p.memory.size) (λ e. ((sized.0, (early_parts e).1, sized.2), (sized.0, (early_parts e).1, sized.2))) sized);
    arena = small;
    retries = within.retries;
    threads = by_version (λ (v : Version). length (threads_of p) ≤ suc (thread_limit v)) (λ e. (let least = (early_parts e).2 in (omega arith, omega arith))) (omega arith);
    depth = by_version (λ (v : Version). depth_of v ≡ p.limits.depth) (λ e. (sym (early_parts e).0, sym (early_parts e).0)) (near_is p.limits.depth within.depth.0 within.depth.1);
    restarts = told_restarts;
  }
