-- What was written of the table of a program's run.
use Rattle.std.proofs.Common.{◌≡◌, ℕ, List, length, take, Option, Result, Ok, Err, refl, sym, ap, subst, false, IfErr, is_ok}
use Rattle.itmsteps.proofs.Common.{Appends, AsmFault, Choice, Failure, Faulty, Item, NoMemory, NoThread, Outputs, Reading, Row, ScheduleFirst, ScheduleRows, Tells, Thread, View, World, Writing, showing, shown_text, table_text, thread_rules, view_of}
use Rattle.run_commands.specs.Scheduled.{Begins, schedule_of}
use Rattle.script_program.specs.Listing.{Listing, threads_of}
use Rattle.step_table.specs.Shown.{Shows}

module _ (choice : Choice) (p : Listing) (first last : World Thread) (items : List Item) (view : View) (o n : Option (List ℕ))
    (begins : Begins p first) (items_are : items ≡ schedule_of p) (view_is : view ≡ view_of choice (length (threads_of p))) where
  -- the whole text
  told : (rows : List Row) → ScheduleRows thread_rules items first rows last → Appends o n (shown_text choice.svg view rows) → Outputs (showing choice) (Ok tt) (Ok p) o n
  told rows leads got = (
    p,
    shown_text choice.svg view rows,
    refl,
    record {
      first = first;
      begins = begins;
      rows = rows;
      last = last;
      leads = subst (λ (l : List Item). ScheduleRows thread_rules l first rows last) items_are leads;
      told = ap (λ (v : View). shown_text choice.svg v rows) view_is;
    },
    got,
  )

  -- a beginning of it
  begun : (rows : List Row) (count : ℕ) → ScheduleFirst thread_rules items first rows last → Appends o n (take count (shown_text choice.svg view rows)) → Outputs (showing choice) (Err Writing) (Ok p) o n
  begun rows count leads got = (
    p,
    refl,
    record {
      first = first;
      begins = begins;
      rows = rows;
      last = last;
      leads = subst (λ (l : List Item). ScheduleFirst thread_rules l first rows last) items_are leads;
      count = count;
      got = subst (λ (v : View). Appends o n (take count (shown_text choice.svg v rows))) view_is got;
    },
  )

  pub shown : (done : Result (Unit {0}) (Failure AsmFault)) → Tells choice.svg view items first last o n done → Outputs (showing choice) done (Ok p) o n
  shown (Ok end) (rows, leads, got) = told rows leads got
  shown (Err Writing) (rows, count, leads, got) = begun rows count leads got
  shown (Err NoMemory) kept = kept
  shown (Err (Faulty f)) none = absurd none
  shown (Err NoThread) none = absurd none
  shown (Err Reading) none = absurd none

-- what was written, whatever the error is
pub shows_as : {P A B E F : Type 0} (R R' : World P → List Row → World P → Type 0) (text : List Row → List ℕ) (a b : World P) (u w : Option (List ℕ)) (r : Result A E) (s : Result B F)
    → is_ok s ≡ is_ok r → Shows R R' text a b u w r → Shows R R' text a b u w s
shows_as R R' text a b u w (Ok x) (Ok y) e p = p
shows_as R R' text a b u w (Ok x) (Err y) e p = absurd (cc)
shows_as R R' text a b u w (Err x) (Ok y) e p = absurd (cc)
shows_as R R' text a b u w (Err x) (Err y) e p = p

-- a table
pub tabled : (view : View) (items : List Item) (a b : World Thread) (o n : Option (List ℕ)) (s : Result (Unit {0}) (Failure AsmFault))
    → Shows (ScheduleRows thread_rules items) (ScheduleFirst thread_rules items) (table_text view) a b o n s → IfErr s (λ failure. failure ≡ Writing) → Tells false view items a b o n s
tabled view items a b o n (Ok x) p e = p
tabled view items a b o n (Err f) (rows, count, first, stops, p) e = subst (λ (f : Failure AsmFault). Tells false view items a b o n (Err f)) (sym e) (rows, count, first, p)
