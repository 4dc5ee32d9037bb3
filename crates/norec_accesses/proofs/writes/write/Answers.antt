use Rattle.std.proofs.Common.{◌≡◌, ℕ, None, Some, sym, ap, subst, ◌∙◌}
use Rattle.norec_accesses.proofs.Common.{Write, access_refusal, err_from_is_err_and, in_block}
use Rattle.norec_accesses.proofs.writes.write.Goals as goal

pub write_served-requires-clause-served : goal.write_served-requires-clause-served
write_served-requires-clause-served c =
    let s = c.args.state.now in
    subst (λ (n : ℕ). access_refusal (in_block s) s.words c.args.at n ≡ None) (c.from.ensures ∙ c.size.ensures.value) (sym c.in_default.ensures.value)

pub returns-in-Some : goal.returns-in-Some
returns-in-Some c =
    c.refuse.ensures (Write c.args.hint c.args.at c.args.value.now) c.args.at c.from.result
    (ap (λ (n : ℕ). Some (c.args.at, n)) (sym (c.from.ensures ∙ c.size.ensures.value))) (sym c.access_refusal.ensures.value ∙ c.in-Some.is)

pub returns-in_err-write_served : goal.returns-in_err-write_served
returns-in_err-write_served c =
    let e = err_from_is_err_and c.from_residual.result c.from_residual.ensures.1 in
    rw e.1 c.in_err-write_served.ensures

pub returns : goal.returns
returns c = c.in_ok-write_served.ensures
