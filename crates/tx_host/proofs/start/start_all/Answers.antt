use Rattle.std.proofs.Common.{rules, arith, ◌≡◌, ◌+◌, ℕ, List, sym, ap, subst, length, vec_len}
use Rattle.tx_host.proofs.Common.{AllReady, Limits, Listing, Promised, into_iter_items, numbered_push, view_of}
use Rattle.tx_host.proofs.Parts.{is_for, is_outside, is_flat, is_limited}
use Rattle.tx_host.proofs.start.start_all.Goals as goal

pub start_one-requires : goal.start_one-requires
start_one-requires g c =
    let base : List ℕ = (view_of c.args.base.value).base in
    let p : Listing = c.args.program.now in
    let rest = subst (AllReady c.args.words.now base p (vec_len c.loop-ready.handles)) c.in-Some.ensures.steps.0 c.loop-ready.invariant.ready in (
      search rules,
      (
        search rules,
        (
          rest.0.begins.own,
          (
            rest.0.begins.stands,
            (
              is_outside base p _ c.in-Some.ready.thread c.in-Some.ready.player rest.0.begins.fresh,
              (
                is_flat base p _ c.in-Some.ready.thread c.in-Some.ready.player rest.0.begins.fresh,
                (
                  (let same = is_limited base p _ c.in-Some.ready.thread c.in-Some.ready.player rest.0.begins.fresh in
                      let few = c.limits-retries.ensures.within.restarts in
                      let here = ap (λ (l : Limits). l.restarts) c.limits-retries.ensures.value in
                      omega arith),
                  c.limits-retries.ensures.within.retries,
                ),
              ),
            ),
          ),
        ),
      ),
    )

pub loop-ready-preserved : goal.loop-ready-preserved
loop-ready-preserved g c =
    let old = c.loop-ready.invariant in
    let words = c.args.words.now in
    let base : List ℕ = (view_of c.args.base.value).base in
    let p : Listing = c.args.program.now in
    let n : ℕ = vec_len c.loop-ready.handles in
    let rest = subst (AllReady words base p n) c.in-Some.ensures.steps.0 old.ready in
    let few : c.limits-retries.result.retries ≡ p.limits.retries = ap (λ (l : Limits). l.retries) c.limits-retries.ensures.value in
    let here = is_for words base p n c.limits-retries.result.retries c.in-Some.ready c.in-Some-start_one.handle.promise rest.0 few c.in-Some-start_one.ensures in
    let many : 0 + length c.loop-ready.handles.items ≡ n = search rules in
    record {
      handles = subst (Promised words base p 0) (sym c.push_reserved.ensures.items) (numbered_push _ 0 n _ _ many old.handles here);
      ready = subst (λ (m : ℕ). AllReady words base p m (into_iter_items c.next.new.self)) (sym c.push_reserved.ensures.len) rest.1;
      count = search rules;
      room = search rules;
      whole = search rules;
    }
