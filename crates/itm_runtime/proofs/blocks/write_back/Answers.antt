use Rattle.std.proofs.Common.{◌≡◌, ℕ, ◌+◌, ◌∙◌, ap, subst, sym, arith}
use Rattle.itm_runtime.proofs.Common.{Asks, Cas, InCall, cell_within, cells_of, exchanging, finds_first, goes, lawful_of, next_step, storing, then_finds, view_of}
use Rattle.norec_core.specs.Moves.{IsResumed}
use Rattle.itm_runtime.proofs.blocks.write_back.Goals as goal

pub step-found-requires : goal.step-found-requires
step-found-requires g c =
    let s = c.requires.due.0 in
    let n = c.snapshot-snapshot.result in
    let i = subst (λ (k : ℕ). InCall s (view_of c.args.pass.now) (exchanging c.args.engine.now) (Cas 0 k (k + 1))) (sym c.snapshot-snapshot.ensures) c.requires.due.1 in
    record { own = c.requires.own; cell = cell_within _ _ _ (Cas 0 n (n + 1)) c.requires.own.over i.tied i.lawful; lawful = lawful_of _ _ i.tied (Cas 0 n (n + 1)) i.lawful }

pub overflow_add-snapshot : goal.overflow_add-snapshot
overflow_add-snapshot g c =
    let i = c.requires.due.1 in
    let few = i.tied.settled.limit in
    let less = i.lawful.5 in
    omega (arith, few, less, c.snapshot-snapshot.ensures)

-- the clock was not the snapshot
pub returns-then-found-snapshot-clause-found : goal.returns-then-found-snapshot-clause-found
returns-then-found-snapshot-clause-found g c =
    finds_first (ap (λ (k : ℕ). Cas 0 k (k + 1)) c.snapshot-snapshot.ensures) c.step-found.ensures.moves c.step-found.ensures.turn c.step-found.ensures.own c.requires.own.over

pub store_rows-requires : goal.store_rows-requires
store_rows-requires g c =
    let s = c.requires.due.0 in
    let e = exchanging c.args.engine.now in
    let n = c.snapshot-snapshot.result in
    let i = subst (λ (k : ℕ). InCall s (view_of c.args.pass.now) e (Cas 0 k (k + 1))) (sym c.snapshot-snapshot.ensures) c.requires.due.1 in
    let stores = c.rows-rows.ensures.stores in
    let same : e.snapshot ≡ c.step-found.result = sym c.snapshot-snapshot.ensures ∙ sym c.if-found-snapshot.false in
    let resumed = subst (λ (k : ℕ). IsResumed e k (Asks (next_step e 0)) (storing e 0 0)) same stores.first in
    record {
      own = c.step-found.ensures.own;
      back = c.requires.back;
      stores = stores;
      rows = c.rows-rows.ensures.count;
      due = (s, goes (cells_of c.args.words.now) (view_of c.args.pass.now) (view_of c.step-found.new.pass) c.requires.own.over c.step-found.ensures.own.over e (storing e 0 0) (Cas 0 n (n + 1)) c.step-found.result c.step-found.ensures.turn (Asks (next_step e 0)) resumed s i);
    }

-- what the rows come to, with the step that took the clock
pub returns-clause-stored : goal.returns-clause-stored
returns-clause-stored g c =
    let e = exchanging c.args.engine.now in
    let same : e.snapshot ≡ c.step-found.result = sym c.snapshot-snapshot.ensures ∙ sym c.if-found-snapshot.false in
    let resumed = subst (λ (k : ℕ). IsResumed e k (Asks (next_step e 0)) (storing e 0 0)) same c.rows-rows.ensures.stores.first in
    let r = c.store_rows.ensures in
    record {
      few = r.few;
      freed = r.freed;
      finds = then_finds (ap (λ (k : ℕ). Cas 0 k (k + 1)) c.snapshot-snapshot.ensures) c.step-found.ensures.moves c.step-found.ensures.turn c.step-found.ensures.own resumed r.finds;
    }
