use Rattle.std.proofs.Common.{◌≡◌, ℕ, suc, ◌+◌, ◌∙◌, [], ◌∷◌, Option, Some, IfNone, IfSome, add-one, refl, subst, sym, arith}
use Rattle.itm_runtime.proofs.Common.{Asks, InCall, IsWhole, Load, Step, Store, cell_within, cells_of, exchanging, goes, got_there, lawful_of, merging, next_step, part_store, storing, view_of}
use Rattle.norec_core.specs.Rows.{value_into, write_at}
use Rattle.itm_runtime.proofs.blocks.store_row.Goals as goal

same_store : (cell word value stored : ℕ) → cell ≡ word + 1 → value ≡ stored → Store (suc word) stored ≡ Store cell value
same_store cell word value stored c v = λ i. Store ((sym (c ∙ add-one word)) i) ((sym v) i)

-- ## A row of a whole word

pub step-stored-requires : goal.step-stored-requires
step-stored-requires g c =
    let s = c.requires.due.0 in
    let e = exchanging c.args.engine.now in
    let row = c.args.row in
    let to = c.row_to_store-cell.result in
    let step = Store to.0 c.in-Some.value in
    let whole = subst (λ (o : Option ℕ). IfSome o (λ value. IsWhole e row × (next_step e row ≡ Store to.0 value))) c.in-Some.is c.row_to_store-cell.ensures.whole in
    let i = subst (λ (x : Step). InCall s (view_of c.args.pass.now) (storing e row c.args.loads) x) whole.1 c.requires.due.1 in
    record { own = c.requires.own; cell = cell_within _ _ _ step c.requires.own.over i.tied i.lawful; lawful = lawful_of _ _ i.tied step i.lawful }

pub returns-in-Some : goal.returns-in-Some
returns-in-Some g c =
    let s = c.requires.due.0 in
    let e = exchanging c.args.engine.now in
    let row = c.args.row in
    let loads = c.args.loads in
    let to = c.row_to_store-cell.result in
    let step = Store to.0 c.in-Some.value in
    let whole = subst (λ (o : Option ℕ). IfSome o (λ value. IsWhole e row × (next_step e row ≡ Store to.0 value))) c.in-Some.is c.row_to_store-cell.ensures.whole in
    let resumed = c.requires.stores.whole row loads c.step-stored.result c.requires.within whole.0 c.requires.few in
    record {
      own = c.step-stored.ensures.own;
      few = omega (arith, c.requires.few);
      steps = (step, c.step-stored.result) ∷ [];
      leads = (sym whole.1, view_of c.step-stored.new.pass, storing e (row + 1) loads, Asks (next_step e (row + 1)), record { stepped = record { turn = c.step-stored.ensures.turn; moves = c.step-stored.ensures.moves }; over = c.step-stored.ensures.own.over; resumed = resumed }, (refl, refl, refl));
    }

-- ## A row that has a part of its word

pub step-found-requires : goal.step-found-requires
step-found-requires g c =
    let s = c.requires.due.0 in
    let e = exchanging c.args.engine.now in
    let row = c.args.row in
    let to = c.row_to_store-cell.result in
    let part = subst (λ (o : Option ℕ). IfNone o ((¬ IsWhole e row) × (next_step e row ≡ Load to.0))) c.in_default.is c.row_to_store-cell.ensures.part in
    let i = subst (λ (x : Step). InCall s (view_of c.args.pass.now) (storing e row c.args.loads) x) part.1 c.requires.due.1 in
    record { own = c.requires.own; cell = cell_within _ _ _ (Load to.0) c.requires.own.over i.tied i.lawful; lawful = lawful_of _ _ i.tied (Load to.0) i.lawful }

pub overflow_add-result : goal.overflow_add-result
overflow_add-result g c = omega (arith, c.requires.few, c.requires.fits)

pub step_over-stored-requires : goal.step_over-stored-requires
step_over-stored-requires g c =
    let s = c.requires.due.0 in
    let e = exchanging c.args.engine.now in
    let row = c.args.row in
    let loads = c.args.loads in
    let words = cells_of c.args.words.now in
    let to = c.row_to_store-cell.result in
    let found = c.step-found.result in
    let step = Store to.0 c.part_over-value.result in
    let part = subst (λ (o : Option ℕ). IfNone o ((¬ IsWhole e row) × (next_step e row ≡ Load to.0))) c.in_default.is c.row_to_store-cell.ensures.part in
    let first = subst (λ (x : Step). InCall s (view_of c.args.pass.now) (storing e row loads) x) part.1 c.requires.due.1 in
    let resumed = c.requires.stores.load row loads found c.requires.within part.0 c.requires.few in
    let loaded = goes words (view_of c.args.pass.now) (view_of c.step-found.new.pass) c.requires.own.over c.step-found.ensures.own.over (storing e row loads) (merging e row loads found) (Load to.0) found c.step-found.ensures.turn (Asks (part_store e row found)) resumed s first in
    let is : part_store e row found ≡ step = same_store to.0 (write_at e.writes row).word c.part_over-value.result (value_into (write_at e.writes row) (Some found)) c.row_to_store-cell.ensures.cell c.part_over-value.ensures in
    let i = subst (λ (x : Step). InCall s (view_of c.step-found.new.pass) (merging e row loads found) x) is loaded in
    record {
      own = c.step-found.ensures.own;
      cell = cell_within _ _ _ step c.step-found.ensures.own.over i.tied i.lawful;
      lawful = lawful_of _ _ i.tied step i.lawful;
      found = got_there s (view_of c.step-found.new.pass) (merging e row loads found) step (Some found) i refl;
    }

pub returns : goal.returns
returns g c =
    let s = c.requires.due.0 in
    let e = exchanging c.args.engine.now in
    let row = c.args.row in
    let loads = c.args.loads in
    let to = c.row_to_store-cell.result in
    let found = c.step-found.result in
    let step = Store to.0 c.part_over-value.result in
    let part = subst (λ (o : Option ℕ). IfNone o ((¬ IsWhole e row) × (next_step e row ≡ Load to.0))) c.in_default.is c.row_to_store-cell.ensures.part in
    let is : part_store e row found ≡ step = same_store to.0 (write_at e.writes row).word c.part_over-value.result (value_into (write_at e.writes row) (Some found)) c.row_to_store-cell.ensures.cell c.part_over-value.ensures in
    record {
      own = c.step_over-stored.ensures.own;
      few = omega (arith, c.requires.few);
      steps = (Load to.0, found) ∷ (step, c.step_over-stored.result) ∷ [];
      leads = (
        sym part.1,
        view_of c.step-found.new.pass,
        merging e row loads found,
        Asks (part_store e row found),
        record { stepped = record { turn = c.step-found.ensures.turn; moves = c.step-found.ensures.moves }; over = c.step-found.ensures.own.over; resumed = c.requires.stores.load row loads found c.requires.within part.0 c.requires.few },
        (
          sym is,
          view_of c.step_over-stored.new.pass,
          storing e (row + 1) (loads + 1),
          Asks (next_step e (row + 1)),
          record { stepped = record { turn = c.step_over-stored.ensures.turn; moves = c.step_over-stored.ensures.moves }; over = c.step_over-stored.ensures.own.over; resumed = c.requires.stores.part row loads found c.step_over-stored.result c.requires.within c.requires.few },
          (refl, refl, refl),
        ),
      );
    }
