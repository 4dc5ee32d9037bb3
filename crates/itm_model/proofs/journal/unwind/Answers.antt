use Rattle.std.proofs.Common.{◌≡◌, ◌≤◌, ◌+◌, ℕ, [], ◌∷◌, ◌++◌, length, take, drop, ap, sym, subst, ◌∙◌, arith, rules, length-append}
use Rattle.itm_model.proofs.Common.{AreWithin, Old, put_back, take-append_seam, take-take, with_slice}
use Rattle.std.specs.Option.{option_to_list}
use Rattle.itm_model.proofs.Journals.Rollbacks.{pop_restores, length-with_slice}
use Rattle.itm_types.proofs.Elements.{all_parts}
use Rattle.itm_model.proofs.journal.unwind.Goals as goal

pub replace-requires : goal.replace-requires
replace-requires c =
    let o = c.unwrap-old.result in
    let m = c.loop-journal.memory.items in
    let e : c.loop-journal.journal.items ≡ c.pop.new.self.items ++ o ∷ [] = c.pop.ensures.items ∙ ap (λ r. c.pop.new.self.items ++ option_to_list r) c.unwrap-old.ensures in
    let fits = (all_parts (λ x. x.place + length x.bytes.items ≤ length m) c.pop.new.self.items (o ∷ []) (subst (AreWithin (length m)) e c.loop-journal.invariant.within)).1.0 in
    let bytes = c.deref.ensures.0 in
    search (rules, fits)

pub loop-journal-preserved : goal.loop-journal-preserved
loop-journal-preserved c =
    let o = c.unwrap-old.result in
    let j = c.loop-journal.journal.items in
    let j' = c.pop.new.self.items in
    let m = c.loop-journal.memory.items in
    let e : j ≡ j' ++ o ∷ [] = c.pop.ensures.items ∙ ap (λ r. j' ++ option_to_list r) c.unwrap-old.ensures in
    let all = all_parts (λ x. x.place + length x.bytes.items ≤ length m) j' (o ∷ []) (subst (AreWithin (length m)) e c.loop-journal.invariant.within) in
    let put : c.replace.new.bytes.items ≡ with_slice m o.place o.bytes.items = c.replace.ensures ∙ ap (with_slice m o.place) c.deref.ensures.0 in
    let size : length c.replace.new.bytes.items ≡ length m = ap (length {A = ℕ}) put ∙ length-with_slice m o.place o.bytes.items all.1.0 in
    let one : length j ≡ length j' + 1 = ap (length {A = Old}) e ∙ length-append j' (o ∷ []) in
    let at : c.args.at ≤ length j' = omega (arith, c.loop-journal-test.true, c.len.ensures, one) in
    record {
      at = at;
      within = subst (λ (n : ℕ). AreWithin n j') (sym size) all.0;
      same = sym (take-append_seam j' (o ∷ [])) ∙ (ap (take (length j')) (sym e ∙ c.loop-journal.invariant.same) ∙ take-take (length j') (length j) c.args.journal.now.items (omega (arith, one)));
      restores = λ k l. ap (put_back (drop k j')) put ∙ (pop_restores j j' o m e k (omega (arith, l, at)) ∙ c.loop-journal.invariant.restores k l);
    }

pub returns-clause-rest : goal.returns-clause-rest
returns-clause-rest c =
    let len : length c.loop-journal.journal.items ≡ c.args.at = omega (arith, c.loop-journal.invariant.at, c.loop-journal-test.false, c.len.ensures) in
    c.loop-journal.invariant.same ∙ ap (λ n. take n c.args.journal.now.items) len
