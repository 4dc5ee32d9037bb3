use Rattle.std.proofs.Common.{◌≡◌, ◌∙◌, ap, false, subst}
use Rattle.itm_runtime.proofs.Common.{Core, Datum, Returns, Standing, Write, answered, due, left_standing}
use Rattle.shared_words.specs.declared.pass.Pass.{Pass}
use Rattle.itm_runtime.proofs.thread.Thread.write.Goals as goal

abbrev standing : Pass → Core → Standing
standing p e = record { pass = p; engine = e }

pub finish-requires-clause-due : goal.finish-requires-clause-due
finish-requires-clause-due g c = due c.self.inside.pass c.self.invariant c.in-Some.ensures

pub invariant_of-self : goal.invariant_of-self
invariant_of-self g c = left_standing c.self.inside.pass c.self.invariant c.in-Some.ensures c.finish.ensures c.args.self.now c.self.view_is c.requires.own

pub returns-in-Some : goal.returns-in-Some
returns-in-Some g c = answered c.self.inside.pass c.self.invariant c.in-Some.ensures c.finish.ensures c.args.self.now c.self.view_is c.requires.own

pub returns-in-None : goal.returns-in-None
returns-in-None g c =
    let w = c.args.words.now in
    let result = c.call_slow.result in
    let new = c.call_slow.new.self in
    let here : Standing = record { pass = c.self.inside.pass; engine = c.write_fast.new.self } in
    let is : here ≡ c.args.self.now = ap (standing c.self.inside.pass) c.in-None.ensures.0 ∙ c.self.view_is in
    subst (λ (t : Standing). Returns (λ a. a) w t (Write c.args.hint c.args.at c.args.value.now) false result new) is
    (subst (λ (d : Datum). Returns (λ a. a) w here (Write c.args.hint c.args.at d) false result new) c.copy_of-value.ensures c.call_slow.ensures)
