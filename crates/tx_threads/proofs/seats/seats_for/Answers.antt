use Rattle.std.proofs.Common.{◌≡◌, ◌∙◌, ◌+◌, ◌<◌, List, ℕ, ap, arith, rules, subst, sym}
use Rattle.itm_types.proofs.Elements.{all_append}
use Rattle.shared_words.specs.{InGlobal.Words, Passes.Owns, Passes.view_of, declared.view.View.View}
use Rattle.tx_threads.specs.{Seats.AllNew, Seats.IsNewClient, declared.seats.Seat.Seat}
use Rattle.tx_threads.proofs.Shares.{gives_none, gives_one, is_new}
use Rattle.tx_threads.proofs.seats.seats_for.Goals as goal

pub loop-init : goal.loop-init
loop-init g c = record {
  own = c.requires.own;
  shares = gives_none (view_of c.args.pass.now);
  new = subst (AllNew c.args.words.now.value (view_of c.args.pass.now).base c.args.tries) (sym c.in_ok-seats.ensures.items) tt;
  count = c.in_ok-seats.ensures.len;
  room = search rules;
}

some_left : (n threads share first : ℕ) → n < threads → threads < first → share + n ≡ first → 1 < share
some_left n threads share first more room is = omega (arith, more, room, is)

pub split-own-requires : goal.split-own-requires
split-own-requires g c = record {
  own = subst (λ (w : Words). Owns w c.loop.pass) (sym c.deref.ensures) c.loop.invariant.own;
  room = some_left c.loop.counter c.args.threads (view_of c.loop.pass).share (view_of c.args.pass.now).share c.loop-test.true c.requires.room c.loop.invariant.shares.share;
}

pub client_of-requires : goal.client_of-requires
client_of-requires g c =
    let own = subst (λ (w : Words). Owns w c.split-own.result) c.deref.ensures c.split-own.ensures.own.1 in
    is_new c.args.words.now.value (view_of c.loop.pass) c.split-own.result own c.split-own.ensures.second

pub loop-preserved : goal.loop-preserved
loop-preserved g c =
    let old = c.loop.invariant in
    let words = c.args.words.now.value in
    let first = view_of c.args.pass.now in
    let some = some_left c.loop.counter c.args.threads (view_of c.loop.pass).share first.share c.loop-test.true c.requires.room old.shares.share in
    let base = ap (λ (v : View). v.base) c.split-own.ensures.second ∙ old.shares.base in
    let new : IsNewClient words first.base c.args.tries c.in_ok-client.client = subst (λ (m : List ℕ). IsNewClient words m c.args.tries c.in_ok-client.client) base c.in_ok-client.ensures in
    record {
      own = subst (λ (w : Words). Owns w c.split-own.new.pass) c.deref.ensures c.split-own.ensures.own.0;
      shares = gives_one c.loop.counter first (view_of c.loop.pass) (view_of c.split-own.new.pass) old.shares (omega (arith, some)) c.split-own.ensures.first;
      new = subst (AllNew words first.base c.args.tries) (sym c.push_reserved.ensures.items) (all_append (λ (s : Seat g.row.T.Denot). IsNewClient words first.base c.args.tries s.client) c.loop.seats.items _ old.new (new, tt));
      count = search rules;
      room = search rules;
    }
