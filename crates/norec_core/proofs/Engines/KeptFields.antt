-- What no step changes in an engine, and what follows from that.
use Rattle.std.proofs.Common.{◌≡◌, ℕ, zero, suc, ◌+◌, ◌*◌, ◌==◌, ◌&&◌, not, Bool, true, false, List, [], ◌∷◌, ◌++◌, length, if◌then◌else◌, Option, None, Some, refl, sym, ap, subst, ◌∙◌}
use Rattle.norec_core.proofs.Common.{AsksFor, Call, Cas, Core, Load, LogRow, Phase, Step, Store, begins_anew, came, count_of, gathered_in, got_in, handed_to, in_transaction, is_inside, may_go, most, saved_in, size_of, source_words, word_loaded, words_read, words_written}
use Rattle.itm_types.specs.declared.call.Call.TheVariants as calls
use Rattle.norec_core.specs.Phases as at
use Rattle.norec_core.specs.Keeps.{Keeps}

-- within a transaction no outermost block begins
pub anew_within : (c : Core) (call : Call) → in_transaction c ≡ true → begins_anew c call ≡ false
anew_within c (calls.Begin props room) o = ap (λ (b : Bool). not b && may_go c.blocks props) o
anew_within c call o = refl

-- so the count of restarts stays as a call comes
pub came_restarted : (c : Core) (call : Call) (again : Bool) → in_transaction c ≡ true → (came c call again).restarted ≡ c.restarted
came_restarted c call again o = ap (λ (b : Bool). if b then 0 else c.restarted) (anew_within c call o)

pub keeps_self : (e : Core) → Keeps e e
keeps_self e = assumption

pub keeps_twice : (a b c : Core) → Keeps a b → Keeps b c → Keeps a c
keeps_twice a b c k l = record {
  words = l.words ∙ k.words;
  patience = l.patience ∙ k.patience;
  max_commits = l.max_commits ∙ k.max_commits;
  restarts = l.restarts ∙ k.restarts;
  restarted = l.restarted ∙ k.restarted;
  depth = l.depth ∙ k.depth;
  arena = λ r. l.arena (k.irrevocable ∙ r) ∙ k.arena r;
  irrevocable = l.irrevocable ∙ k.irrevocable;
  room = l.room ∙ k.room;
  writes = l.writes ∙ k.writes;
  blocks = l.blocks ∙ k.blocks;
  actions = l.actions ∙ k.actions;
  doing = l.doing ∙ k.doing;
  again = l.again ∙ k.again;
  entry = l.entry ∙ k.entry;
}

-- a value is handed in; the step was counted as it was asked for, and the log is as it was
pub record IsHanded (e mid : Core) : Type 0 where
  pub keeps : Keeps e mid
  pub log : mid.log ≡ e.log
  pub snapshot : mid.snapshot ≡ e.snapshot
  pub spent : mid.spent ≡ e.spent

-- what a value may change
handed_with : (e : Core) (waits : Option Step) (stage : Phase) (tries clock done : ℕ) (fresh : List LogRow) (holds freed : Bool) (got : Option ℕ) (gathered arena : List ℕ) → (e.irrevocable ≡ false → arena ≡ e.arena)
    → IsHanded e (record e { waits = waits; stage = stage; tries = tries; clock = clock; done = done; fresh = fresh; holds = holds; freed = freed; got = got; gathered = gathered; arena = arena })
handed_with e waits stage tries clock done fresh holds freed got gathered arena same = assumption same

-- a word that was loaded, by the holder of the clock or by another
word_is : (e : Core) (holds : Bool) (word n : ℕ) → IsHanded e (word_loaded e holds word n)
word_is e true word n =
    let bytes = gathered_in e.stage e.gathered n in
    handed_with e None at.Idle 0 e.clock e.done e.fresh e.holds e.freed (got_in e.stage n) bytes (if e.irrevocable then saved_in e.stage e.arena bytes else e.arena)
    (λ r. ap (λ (i : Bool). if i then saved_in e.stage e.arena bytes else e.arena) r)
word_is e false word n = handed_with e None at.Idle 0 e.clock e.done (e.fresh ++ record { word = word; value = n } ∷ []) e.holds e.freed e.got e.gathered e.arena (λ r. refl)

pub handed_is : (e : Core) (step : Step) (n : ℕ) → IsHanded e (handed_to e (Some step) n)
handed_is e (Load zero) n = handed_with e None at.Idle 0 n e.done [] e.holds e.freed e.got e.gathered e.arena (λ r. refl)
handed_is e (Load (suc word)) n = word_is e e.holds word n
handed_is e (Store zero value) n = handed_with e None at.Idle 0 value e.done [] false true e.got e.gathered e.arena (λ r. refl)
handed_is e (Store (suc word) value) n = handed_with e None at.Idle 0 e.clock (if e.irrevocable then e.done else e.done + 1) e.fresh e.holds e.freed None e.gathered e.arena (λ r. refl)
handed_is e (Cas cell from to) n = handed_with e None at.Idle 0 n 0 [] (n == from) e.freed None e.gathered e.arena (λ r. refl)

-- a step is asked for
pub keeps_asked : (mid new : Core) (step : Step) → AsksFor mid step new → Keeps mid new
keeps_asked mid new step g = subst (Keeps mid) (sym g.stays) (assumption)

-- both may ask for as many steps
pub most_same : (a b : Core) → Keeps a b → (o : Option Call) → most b o ≡ most a o
most_same a b k (Some (calls.Begin props room)) = λ i. if is_inside (k.blocks i) then k.patience i * (k.entry i + 3) + 2 * length (k.writes i) + 2 else 2 * k.patience i
most_same a b k (Some calls.Commit) = λ i. k.patience i * (k.entry i + 3) + 2 * length (k.writes i) + 2
most_same a b k (Some (calls.Mode room)) = λ i. k.patience i * (k.entry i + 3) + 2 * length (k.writes i) + 2
most_same a b k (Some (calls.Read hint width at)) = λ i. 2 * count_of at (size_of width) + k.patience i * (k.entry i + count_of at (size_of width) + 4)
most_same a b k (Some (calls.Copy c)) = λ i. if k.irrevocable i then words_read c c.pair + 2 * words_written c c.pair else 2 * source_words c + k.patience i * (k.entry i + source_words c + 4)
most_same a b k _ = refl
