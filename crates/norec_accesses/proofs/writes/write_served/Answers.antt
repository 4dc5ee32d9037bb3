use Rattle.std.proofs.Common.{ℕ, sym, subst, arith, rules}
use Rattle.norec_accesses.proofs.Common.{AreRoomy, err_from_is_err_and, in_block, pieces_of, rows_of, served, size_of}
use Rattle.norec_accesses.proofs.WriteReplies.{put_turns}
use Rattle.norec_accesses.proofs.writes.write_served.Goals as goal

pub returns-in_err-put_value : goal.returns-in_err-put_value
returns-in_err-put_value c =
    let s = c.args.state.now in
    let may = served (in_block s) s.words c.args.at (size_of c.args.value.now.width) c.requires.served in
    let size = size_of c.args.value.now.width in
    let e = err_from_is_err_and c.from_residual.result c.from_residual.ensures.1 in
    rw e.1 (record {
      sound = search rules;
      same = search rules;
      starves = (may.0, may.1, λ roomy. c.in_err-put_value.ensures.grows (subst (λ (n : ℕ). AreRoomy s.frames.writes.rows (rows_of s.frames.blocks) (pieces_of c.args.at n)) (sym c.size.ensures.value) roomy));
    })

pub returns : goal.returns
returns c =
    rw c.start_call.ensures (put_turns c.args.state.now c.args.hint c.args.at c.args.value.now c.put_value.new.frames c.size.result _ c.requires.sound c.requires.served
    c.size.ensures.value (omega (arith, c.size.ensures.most)) c.deref.ensures.0 c.put_value.ensures.bytes c.in_ok-put_value.ensures.rows c.put_value.ensures.kept)
