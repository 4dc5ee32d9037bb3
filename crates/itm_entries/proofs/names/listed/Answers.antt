use Rattle.std.proofs.Common.{None, sym, ◌∙◌, rules}
use Rattle.std.specs.Prelude.{bytes_eq}
use Rattle.itm_entries.specs.declared.entry.Control.TheVariants.{BeginTransaction}
use Rattle.itm_entries.specs.declared.entry.Entry.TheVariants.{Control}
use Rattle.itm_entries.specs.Names.{name_of}
use Rattle.itm_entries.proofs.Lookup.{goes_on, stops, ends}
use Rattle.itm_entries.proofs.UniqueNames.{entry_of-list}
use Rattle.itm_entries.proofs.names.listed.Goals as goal

pub loop-entry-preserved : goal.loop-entry-preserved
loop-entry-preserved c =
    goes_on (λ e. bytes_eq (name_of e) c.args.text.now) c.all_entries-entries.result.now c.loop-entry.entry-index (Control BeginTransaction) c.loop-entry-test.true (search rules) ∙ c.loop-entry.invariant

pub returns-then-eq : goal.returns-then-eq
returns-then-eq c =
    sym (entry_of-list c.all_entries-entries.result.now c.args.text.now _ c.all_entries-entries.ensures.list (sym c.loop-entry.invariant ∙ stops (λ e. bytes_eq (name_of e) c.args.text.now) c.all_entries-entries.result.now c.loop-entry.entry-index _ c.loop-entry-test.true (search rules)))

pub returns : goal.returns
returns c =
    sym (entry_of-list c.all_entries-entries.result.now c.args.text.now None c.all_entries-entries.ensures.list (sym c.loop-entry.invariant ∙ ends (λ e. bytes_eq (name_of e) c.args.text.now) c.all_entries-entries.result.now c.loop-entry.entry-index c.loop-entry-test.false))
