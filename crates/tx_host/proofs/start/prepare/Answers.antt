use Rattle.std.proofs.Common.{rules, arith, ◌≡◌, ◌+◌, ◌-◌, ◌<◌, ℕ, sym, subst, length, refl}
use Rattle.tx_host.proofs.Common.{AllReady, IsReady, Listing, Owns, Ready, cells_of, numbered_push, view_of}
use Rattle.tx_host.proofs.Parts.{cut_same, cut_share, is_fresh}
use Rattle.tx_host.proofs.start.prepare.Goals as goal

pub loop-number-preserved : goal.loop-number-preserved
loop-number-preserved c =
    let old = c.loop-number.invariant in
    let start = view_of c.args.pass.now in
    let p : Listing = c.args.program.now in
    let n : ℕ = c.loop-number.number in
    let first = c.split-theirs.ensures.first in
    let some : 0 < (view_of c.loop-number.pass).share = let q = old.parts in let s = c.requires.parts in let r = c.loop-number-test.true in let t = old.threads in omega arith in
    let made : Ready = record { number = n; thread = c.in_ok-thread.thread; player = c.in_ok-player.player } in
    let here : IsReady c.args.words.now start.base p n made = record {
      number_is = refl;
      begins = record {
        own = subst (Owns c.args.words.now) (sym c.in_ok-thread.ensures.pass) c.split-theirs.ensures.own.1;
        stands = c.in_ok-thread.ensures.stands;
        fresh = is_fresh start (view_of c.loop-number.pass) c.split-theirs.result p n c.in_ok-thread.thread c.in_ok-player.player c.requires.unused old.pass c.split-theirs.ensures.second c.in_ok-thread.ensures.pass (cells_of c.args.words.now - 1) c.in_ok-arena.arena c.arena.result c.limits.result c.in_ok-thread.ensures.engine c.in_ok-arena.ensures c.arena.ensures.value c.limits.ensures.value c.in_ok-player.ensures;
      };
    } in
    let many : 0 + length c.loop-number.all.items ≡ n = search rules in
    record {
      own = c.split-theirs.ensures.own.0;
      pass = cut_same start (view_of c.loop-number.pass) _ old.pass first;
      ready = subst (AllReady c.args.words.now start.base p 0) (sym c.push_reserved.ensures.items) (numbered_push _ 0 n _ _ many old.ready here);
      threads = search rules;
      count = search rules;
      parts = cut_share start (view_of c.loop-number.pass) _ old.pass first n some old.parts;
      room = search rules;
    }
