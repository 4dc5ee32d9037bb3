use Rattle.std.proofs.Common.{ℕ, ap, arith, subst, sym}
use Rattle.norec_accesses.proofs.Common.{ReadTurns}
use Rattle.norec_accesses.proofs.ReadCalls.ReadsAtOnce.{reads}
use Rattle.norec_accesses.proofs.new_words.read_at_once.Goals as goal

pub add-requires : goal.add-requires
add-requires c =
    let new = c.requires.new.2 in
    record {
      room = c.has_room_behind.ensures.room c.if-prove.false;
      word = omega (arith, new.at_is, new.within, c.requires.sound.bounds.small);
      first = new.unlogged;
    }

pub returns : goal.returns
returns c hint width at is =
    let s = c.args.state.now in
    subst (ReadTurns s hint width at c.args.word c.args.value) (ap (λ (n : ℕ). record s { entry = n; spent = 2; log = c.add.new.self }) (sym c.len-state.ensures.len))
    (reads s hint width at c.args.word c.args.value is c.requires.sound (c.has_room_behind.ensures.room c.if-prove.false) (omega arith) c.add.new.self c.add.ensures.rows c.add.ensures.single)
