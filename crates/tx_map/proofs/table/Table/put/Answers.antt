use Rattle.std.proofs.Common.{◌≡◌, ◌≢◌, ◌+◌, ◌*◌, ◌^◌, false, true, arith, subst}
use Rattle.tx_map.proofs.Common.{Does, HasFound, to_le_bytes, w64, with_slice}
use Rattle.tx_map.{proofs.Finds.added, proofs.Finds.put_full, proofs.Finds.again, proofs.Parts.does_so, proofs.Parts.does_then, proofs.Parts.does_write}
use Rattle.tx_map.proofs.table.Table.put.Goals as goal

pub returns-in_default-clause-put : goal.returns-in_default-clause-put
returns-in_default-clause-put c =
    let t = c.args.self.now.slots in
    let tx = c.args.tx.now in
    let some : c.args.key ≢ 0 = λ e. omega (arith, c.requires, e) in
    does_so tx.words tx.thread c.find.new.tx.thread false _ _ (put_full t.first t.count c.args.key c.args.value some)
    (subst (λ found. Does tx.words tx.thread c.find.new.tx.thread false (HasFound t.first t.count c.args.key found)) c.in_default.is c.in_ok-slot.ensures.found)

pub returns-then-had-eq0-clause-put : goal.returns-then-had-eq0-clause-put
returns-then-had-eq0-clause-put c =
    let t = c.args.self.now.slots in
    let tx = c.args.tx.now in
    let slot = c.in-Some.slot in
    let some : c.args.key ≢ 0 = λ e. omega (arith, c.requires, e) in
    let word = c.args.key + 2 ^ 32 * c.args.value in
    let now = does_write c.find.new.tx.words c.find.new.tx.thread c.write.new.tx.thread slot.place word c.in_ok-write.ensures.tells in
    does_then tx.words tx.thread c.find.new.tx.thread c.write.new.tx.thread false true _ _ _ (λ m n o found is h. added t.first t.count c.args.key c.args.value some slot c.in-Some.had c.ranges.key.fits c.ranges.value.fits m n o found is h c.if-had-eq0.true)
    (subst (λ found. Does tx.words tx.thread c.find.new.tx.thread false (HasFound t.first t.count c.args.key found)) c.in-Some.is c.in_ok-slot.ensures.found)
    (subst (λ w. Does w c.find.new.tx.thread c.write.new.tx.thread true (λ old new. new ≡ with_slice old slot.place (to_le_bytes w64 word))) c.in_ok-slot.ensures.kept.words now)

pub returns-else-had-eq0-clause-put : goal.returns-else-had-eq0-clause-put
returns-else-had-eq0-clause-put c =
    let t = c.args.self.now.slots in
    let tx = c.args.tx.now in
    let slot = c.in-Some.slot in
    let some : c.args.key ≢ 0 = λ e. omega (arith, c.requires, e) in
    let word = c.args.key + 2 ^ 32 * c.args.value in
    let now = does_write c.find.new.tx.words c.find.new.tx.thread c.write.new.tx.thread slot.place word c.in_ok-write.ensures.tells in
    does_then tx.words tx.thread c.find.new.tx.thread c.write.new.tx.thread false true _ _ _ (λ m n o found is h. again t.first t.count c.args.key c.args.value some slot c.in-Some.had c.ranges.key.fits c.ranges.value.fits m n o found is h c.if-had-eq0.false)
    (subst (λ found. Does tx.words tx.thread c.find.new.tx.thread false (HasFound t.first t.count c.args.key found)) c.in-Some.is c.in_ok-slot.ensures.found)
    (subst (λ w. Does w c.find.new.tx.thread c.write.new.tx.thread true (λ old new. new ≡ with_slice old slot.place (to_le_bytes w64 word))) c.in_ok-slot.ensures.kept.words now)
