use Rattle.std.proofs.Common.{◌+◌, ◌<◌, ◌≤◌, ◌^◌, ℕ, List, Option, MatchOption, length, sym, subst, arith}
use Rattle.value_log.proofs.Common.{HavePlaces, IsRight, Log, LogRow}
use Rattle.std.{specs.Int.IsNextPowerOfTwo, specs.Option.SomeIff}
use Rattle.value_log.{proofs.FilledRows.power_in_eights, proofs.IndexedRows.few_rows}
use Rattle.value_log.proofs.log.ValueLog.grow.Goals as goal

pub reserve-requires-clause-places : goal.reserve-requires-clause-places
reserve-requires-clause-places c =
    let next = subst (λ (o : Option ℕ). MatchOption o (2 ^ 63 < c.in_ok-wanted.wanted) (IsNextPowerOfTwo c.in_ok-wanted.wanted)) c.in_ok-rows.ensures.ok_part c.checked_next_power_of_two.ensures in
    let sum = subst (λ (o : Option ℕ). SomeIff o (c.len-len.result + c.args.more < 2 ^ 64) (c.len-len.result + c.args.more)) c.in_ok-wanted.ensures.ok_part c.checked_add.ensures in
    let within : length c.self.inside.rows.items ≤ c.in_ok-rows.rows = omega (arith, next.1, sum, c.len-len.ensures.value) in
    subst (λ (rs : List LogRow). HavePlaces rs c.in_ok-rows.rows) (sym c.as_slice.ensures) (record {
      few = few_rows c.self.inside.rows.items c.self.invariant.single c.self.invariant.below;
      within = within;
    })

pub invariant_of-self : goal.invariant_of-self
invariant_of-self c = record {
  single = c.self.invariant.single;
  below = c.self.invariant.below;
  index = subst (IsRight c.reserve.new.self.last.items c.reserve.new.self.before.items) c.as_slice.ensures c.reserve.ensures.right;
  room = λ made. omega (arith, c.self.invariant.room (subst (λ (n : ℕ). 0 < n) c.in_err-reserve.ensures.last made), c.reserve.ensures.before);
}

pub reserve_exact-requires : goal.reserve_exact-requires
reserve_exact-requires c =
    let rows = c.in_ok-rows.rows in
    let next = subst (λ (o : Option ℕ). MatchOption o (2 ^ 63 < c.in_ok-wanted.wanted) (IsNextPowerOfTwo c.in_ok-wanted.wanted)) c.in_ok-rows.ensures.ok_part c.checked_next_power_of_two.ensures in
    let more = subst (λ (l : Log). l.room < c.args.more) (sym c.self.view_is) c.requires in
    let sum = subst (λ (o : Option ℕ). SomeIff o (c.len-len.result + c.args.more < 2 ^ 64) (c.len-len.result + c.args.more)) c.in_ok-wanted.ensures.ok_part c.checked_add.ensures in
    let all : 8 ≤ rows = omega (arith, next.1, sum, more, c.len-len.ensures.value, c.len-len.ensures.fits, c.len-len.ensures.some) in
    let eights = power_in_eights next.0.0 rows next.0.1 all in
    record { blocks = omega (arith, eights, all, next.1, sum, c.len-len.ensures.value) }
