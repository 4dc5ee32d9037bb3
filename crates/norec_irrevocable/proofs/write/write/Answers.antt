use Rattle.std.proofs.Common.{◌≡◌, ℕ, ◌+◌, ◌*◌, ◌&&◌, nat_le, subst, sym, ap, refl, ◌∙◌}
use Rattle.norec_irrevocable.proofs.Common.{AreBytes, Datum, Idle, Write, access_refusal, cond-true, in_block, in_call, kept, le-leb, pieces_of, place_from, served, size_of, written}
use Rattle.norec_core.specs.declared.call_parts.Target.TheVariants as into
use Rattle.norec_irrevocable.proofs.Replies.HeldAccesses.{write_comes}
use Rattle.norec_irrevocable.proofs.Replies.PartsOfCalls.{as_call, come}
use Rattle.itm_types.proofs.SameDatum.{same_datum}
use Rattle.norec_irrevocable.proofs.Replies.Refusals.{refused_access}
use Rattle.norec_irrevocable.proofs.write.write.Goals as goal

pub returns-in-Some : goal.returns-in-Some
returns-in-Some c = rw c.start_call.ensures (refused_access c.args.state.now (Write c.args.hint c.args.at c.args.value.now) c.in-Some.why c.args.at (size_of c.args.value.now.width) c.requires.held refl (sym (c.access_refusal-refused.ensures.value ∙ ap (λ (n : ℕ). access_refusal (in_block c.args.state.now) c.args.state.now.words c.args.at n) (c.from.ensures ∙ c.size.ensures.value)) ∙ c.in-Some.is))

pub returns : goal.returns
returns c =
    let s = c.args.state.now in
    let a = c.args in
    let v = a.value.now in
    let put = c.value_of-state.ensures.items ∙ c.deref-2.ensures.0 in
    let same : c.new-state.result ≡ v = same_datum c.new-state.result v c.new-state.ensures.width (c.new-state.ensures.bytes ∙ c.deref.ensures.0) in
    let may = served (in_block s) s.words a.at (size_of v.width) (sym (c.access_refusal-refused.ensures.value ∙ ap (λ (n : ℕ). access_refusal (in_block s) s.words a.at n) (c.from.ensures ∙ c.size.ensures.value)) ∙ c.in_default.is) in
    as_call s (Write a.hint a.at v) c.new-state.result c.value_of-state.result _ _ (rw c.start_call.ensures at (c.start.ensures.goes v.bytes.items Idle (sym put)))
    (ap (λ (x : Datum). in_call (come s) (Write a.hint a.at x) v.bytes.items) same)
    ((λ i. place_from Idle (record { target = into.Value a.hint v.width; at = a.at; size = c.size-2.ensures.value i; number = 0 }))
    ∙ sym (cond-true (in_block s && nat_le (a.at + size_of v.width) (8 * s.words)) _ _ (λ i. may.0 i && le-leb (a.at + size_of v.width) (8 * s.words) may.1 i))) refl
    (λ m mem.
    (let all = write_comes s may.0 m mem a.hint v a.at may.1 (subst AreBytes c.deref-2.ensures.0 c.value_of-state.ensures.fit) in
    ((λ i. kept s (written m (pieces_of a.at (c.size-2.ensures.value i)) (put i))) ∙ all.0, all.1)))
