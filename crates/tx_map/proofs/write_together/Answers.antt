use Rattle.std.proofs.Common.{ℕ, ◌≡◌, ◌-◌, ◌*◌, ◌/◌, ◌^◌, min, Option, IfSome, ap, arith, rules, subst, sym}
use Rattle.tx_map.proofs.Common.{AllTell, HasOnlyPairs, told_in_all}
use Rattle.shared_words.specs.Good.{EndsWith}
use Rattle.tx_map.{proofs.Pairs.empty_only, proofs.Threads.all_added, proofs.Threads.all_commits, proofs.Threads.all_pairs, proofs.Threads.only_pairs}
use Rattle.tx_map.proofs.write_together.Goals as goal

pub returns-in_err-joined-clause-only : goal.returns-in_err-joined-clause-only
returns-in_err-joined-clause-only g c =
    let t = c.args.table.now.slots in
    subst (HasOnlyPairs t.first t.count 160) (sym c.in_err-joined.ensures.still) (empty_only t.first t.count 160 c.args.bytes.now c.requires)

pub returns-in_err-added-clause-only : goal.returns-in_err-added-clause-only
returns-in_err-added-clause-only g c =
    let t = c.args.table.now.slots in
    only_pairs _ _ t.first t.count _ c.in_ok-joined.joined.clock c.in_ok-joined.joined.values.items c.args.bytes.now c.run.new.bytes c.in_ok-joined.ensures.run (λ n lent left r called. search rules) c.requires

pub returns-clause-only : goal.returns-clause-only
returns-clause-only g c =
    let t = c.args.table.now.slots in
    only_pairs _ _ t.first t.count _ c.in_ok-joined.joined.clock c.in_ok-joined.joined.values.items c.args.bytes.now c.run.new.bytes c.in_ok-joined.ensures.run (λ n lent left r called. search rules) c.requires

pub returns-clause-all : goal.returns-clause-all
returns-clause-all g c =
    let t = c.args.table.now.slots in
    let tell = subst (λ (o : Option ℕ). IfSome o (λ x. AllTell c.as_slice.result.now)) c.in_ok-added.ensures c.added_by.ensures.tell in
    all_pairs _ _ t.first t.count _ c.in_ok-joined.joined.clock c.in_ok-joined.joined.values.items c.args.bytes.now c.run.new.bytes c.in_ok-joined.ensures.run (λ n lent left r called. search rules) c.requires (λ n lent left r called. search rules) (subst AllTell c.as_slice.ensures.value tell)

pub returns-clause-commits : goal.returns-clause-commits
returns-clause-commits g c =
    let t = c.args.table.now.slots in
    let tell = subst (λ (o : Option ℕ). IfSome o (λ x. AllTell c.as_slice.result.now)) c.in_ok-added.ensures c.added_by.ensures.tell in
    let twice : c.in_ok-joined.joined.clock ≡ 512 = all_commits _ _ t.first t.count _ c.in_ok-joined.joined.clock c.in_ok-joined.joined.values.items c.args.bytes.now c.run.new.bytes c.in_ok-joined.ensures.run (λ n lent left r called. search rules) (subst AllTell c.as_slice.ensures.value tell) in
    omega (arith, twice)

pub returns-clause-added : goal.returns-clause-added
returns-clause-added g c =
    let t = c.args.table.now.slots in
    let added = c.in_ok-added.added in
    let told = c.in_ok-joined.joined.values.items in
    let tell = subst (λ (o : Option ℕ). IfSome o (λ x. AllTell c.as_slice.result.now)) c.in_ok-added.ensures c.added_by.ensures.tell in
    let sum : added ≡ min (told_in_all c.as_slice.result.now) (2 ^ 64 - 1) = subst (λ (o : Option ℕ). IfSome o (λ (n : ℕ). n ≡ min (told_in_all c.as_slice.result.now) (2 ^ 64 - 1))) c.in_ok-added.ensures c.added_by.ensures.sum in
    let all : told_in_all told ≡ 160 = all_added _ _ t.first t.count _ c.in_ok-joined.joined.clock told c.args.bytes.now c.run.new.bytes c.in_ok-joined.ensures.run (λ n lent left r called. search rules) c.requires (λ n lent left r called. search rules) (subst AllTell c.as_slice.ensures.value tell) in
    let same : told_in_all c.as_slice.result.now ≡ told_in_all told = ap told_in_all c.as_slice.ensures.value in
    omega (arith, sum, all, same)

pub returns-clause-history : goal.returns-clause-history
returns-clause-history g c =
    let run = c.in_ok-joined.ensures.run in
    let clock = c.in_ok-joined.joined.clock in
    let is : clock ≡ 2 * (clock / 2) = omega (arith, run.ends.clock_is) in
    record { whole = run.whole; bytes = run.bytes; ends = subst (λ (n : ℕ). EndsWith run.whole n c.run.new.bytes) is run.ends }
