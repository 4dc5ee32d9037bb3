use Rattle.std.proofs.Common.{[], ◌∷◌, refl}
use Rattle.itm_runtime.proofs.Common.{cell_within, cells_of, fits_of, got_there, lawful_of, leads_last, smaller, view_of, waits_of}
use Rattle.itm_runtime.proofs.drive.any_step.Goals as goal

pub step_over-found-requires : goal.step_over-found-requires
step_over-found-requires g c =
    let i = c.requires.due.1 in
    record {
      own = c.requires.own;
      cell = cell_within _ _ _ c.args.step c.requires.own.over i.tied i.lawful;
      lawful = lawful_of _ _ i.tied c.args.step i.lawful;
      found = got_there _ _ _ c.args.step _ i c.got.ensures;
    }

pub resume_into-requires : goal.resume_into-requires
resume_into-requires g c =
    let i = c.requires.due.1 in
    record {
      waits = waits_of c.requires.due.0 _ _ _ i;
      fits = fits_of c.requires.due.0 _ _ _ _ c.args.step i c.step_over-found.ensures.turn;
    }

pub returns : goal.returns
returns g c =
    let words = cells_of c.args.words.now in
    let over = c.requires.own.over in
    let turn = c.step_over-found.ensures.turn in
    record {
      own = c.step_over-found.ensures.own;
      steps = (c.args.step, c.step_over-found.result) ∷ [];
      leads = leads_last refl c.step_over-found.ensures.moves turn c.step_over-found.ensures.own.over c.resume_into.ensures;
      less = smaller words (view_of c.args.pass.now) (view_of c.step_over-found.new.pass) over c.step_over-found.ensures.own.over c.args.engine.now c.resume_into.new.self c.args.step c.step_over-found.result turn _ c.resume_into.ensures c.requires.due.0 c.requires.due.1;
    }
