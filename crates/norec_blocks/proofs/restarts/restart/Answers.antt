use Rattle.std.proofs.Common.{◌≡◌, ℕ, take, refl, sym, ap, ◌∙◌}
use Rattle.norec_blocks.proofs.Common.{LogRow, get_or_from_slice_get, row_at}
use Rattle.norec_data.specs.declared.end.CallEnd.TheVariants.{Restarted}
use Rattle.norec_blocks.proofs.restarts.restart.Goals as goal

pub returns : goal.returns
returns c =
    let s = c.args.state.now in
    let here : row_at s.log.rows c.args.row ≡ c.row-logged.result = get_or_from_slice_get s.log.rows c.args.row c.row-logged.result _ c.row-logged.ensures in
    record {
      end_is = ap (λ (r : LogRow). Restarted r.word) (sym here);
      blocks = c.renew.ensures.blocks;
      rows = c.renew.ensures.back.rows;
      actions = c.renew.ensures.back.actions;
      room = c.renew.ensures.back.limits.room;
      size = c.renew.ensures.back.limits.size;
      depth = c.renew.ensures.back.limits.depth;
      log = c.cut.ensures.rows ∙ ap (λ (n : ℕ). take n s.log.rows) c.reads-kept.ensures;
      arena = c.renew.ensures.back.arena;
      bytes = c.renew.ensures.back.restored;
      arena_size = c.renew.ensures.back.arena_size;
      others = refl;
    }
