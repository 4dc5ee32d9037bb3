use Rattle.std.proofs.Common.{◌≡◌, ℕ, None, take, subst, arith}
use Rattle.write_set.proofs.Common.{Indexed, eqb-true, lookup}
use Rattle.write_set.proofs.Held.{got_within, none_behind}
use Rattle.write_set.proofs.keyed_rows.Rows.is_next.Goals as goal

pub returns-then-self-len : goal.returns-then-self-len
returns-then-self-len c same =
    let list = c.self.inside.list.items in
    let len = c.self.inside.len in
    let r = c.index.result.now in
    let got = got_within list len r r (omega (arith, c.if-self-len.true, c.len.ensures)) c.index.ensures in
    let none = none_behind c.self.inside.list.items c.self.inside.len c.self.inside.index.entries c.self.inside.indexed c.self.invariant r got in
    subst (λ (k : Indexed). lookup c.args.word k.rows ≡ None) c.self.view_is (subst (λ (word : ℕ). lookup word (take len list) ≡ None) (eqb-true r.word c.args.word same) none)
