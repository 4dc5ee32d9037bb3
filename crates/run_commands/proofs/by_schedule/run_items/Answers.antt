use Rattle.std.proofs.Common.{List, ℕ, ◌∙◌, ap, subst}
use Rattle.run_commands.proofs.Common.{Appends, HistoryFits, IsCutOff, Item, ItemsLead, Version, endings_of, err_from_is_err_and, history_text, thread_rules, told_of, version_of}
use Rattle.run_commands.{proofs.ProgramPages.world_of_run, proofs.WrittenWorlds.told, proofs.WrittenWorlds.begun}
use Rattle.run_commands.proofs.by_schedule.run_items.Goals as goal

pub returns-in_err-write_run : goal.returns-in_err-write_run
returns-in_err-write_run g c =
    let p = err_from_is_err_and c.from_residual.result c.from_residual.ensures.1 in
    let stops = subst (λ (items : List Item). IsCutOff thread_rules (version_of c.args.program.now) items c.args.world c.write_run.new.world (g.W.Write.contents c.args.writer.now) (g.W.Write.contents c.write_run.new.writer)) c.requires.items
    (subst (λ (v : Version). IsCutOff thread_rules v c.args.items.now c.args.world c.write_run.new.world (g.W.Write.contents c.args.writer.now) (g.W.Write.contents c.write_run.new.writer)) c.version_of-version.ensures c.in_err-write_run.ensures.played.stops) in
    rw (p.1, p.2, c.in_err-write_run.ensures.failure) (begun c.args.program.now c.args.world c.write_run.new.world _ _ c.requires.nested c.requires.begins c.in_err-write_run.ensures.played.commits c.in_err-write_run.ensures.played.opaque c.in_err-write_run.ensures.played.tied stops)

pub returns : goal.returns
returns g c =
    let w = c.write_run.new.world in
    let leads = subst (λ (items : List Item). ItemsLead thread_rules items c.args.world w) c.requires.items c.in_ok-write_run.ensures.played.leads in
    let is = world_of_run c.args.program.now w c.requires.nested c.requires.limits (c.args.world, c.requires.begins, leads) c.in_ok-write_run.ensures.played.commits c.in_ok-write_run.ensures.played.opaque c.in_ok-write_run.ensures.played.tied in
    let threads = ap (λ (n : ℕ). endings_of n w) c.threads.ensures.value in
    let fits = subst (λ (v : Version). HistoryFits (told_of v w)) c.version_of-version.ensures c.in_ok-write_run.ensures.fits in
    let text = subst (λ (v : Version). Appends (g.W.Write.contents c.args.writer.now) (g.W.Write.contents c.write_run.new.writer) (history_text (told_of v w))) c.version_of-version.ensures c.in_ok-write_run.ensures.text in
    told c.args.program.now w _ _ is fits c.requires.limits c.endings.result (c.endings.ensures ∙ threads) text
