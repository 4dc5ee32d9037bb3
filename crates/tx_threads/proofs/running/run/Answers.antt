use Rattle.std.proofs.Common.{◌∙◌, List, ℕ, ap, subst, sym}
use Rattle.itm_types.specs.Memory.{bytes_of}
use Rattle.shared_words.specs.Passes.{view_of}
use Rattle.tx_threads.specs.Threads.{AllHaveRun}
use Rattle.tx_threads.proofs.running.run.Goals as goal

pub returns-clause-run : goal.returns-clause-run
returns-clause-run g c =
    let words = c.in-Ok.words.value in
    let whole = view_of c.serve_all.new.pass in
    let base = c.in_ok-values.ensures.base in
    record {
      words = words;
      whole = whole;
      bytes = ap bytes_of base ∙ c.in_ok-words.ensures.bytes;
      all = subst (λ (m : List ℕ). AllHaveRun g.F.Fn c.args.body.now words m c.args.tries c.args.threads c.in_ok-values.values.items whole) (sym base) c.in_ok-values.ensures.run;
      ends = c.read_all-clock.ensures;
    }
