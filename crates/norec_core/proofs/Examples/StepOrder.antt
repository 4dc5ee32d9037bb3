-- Worked cases of the step order, computed: what a call asks for, step by step, and how it ends. The clock is cell 0, and word w is cell w + 1.
use Rattle.std.proofs.Common.{◌≡◌, ℕ, ◌*◌, List, [], ◌∷◌, true, false, Option, None, Some, refl}
use Rattle.norec_core.proofs.Common.{Answer, BackLoad, Busy, Call, Committed, Confirm, Conflict, Core, Exchange, Free, Full, Idle, LogRow, Phase, Props, RoundEnd, RoundRow, RoundStart, Row, Step, U8, asked, begun, came, ending_after, ending_at, gathered_at, handed, log_after, no_actions, opening, snapshot_after, stage_after, stage_at, tries_after, tries_at}
use Rattle.norec_core.{specs.declared.call_parts.Reading.Reading, specs.Phases.Begin, specs.Phases.Store, specs.Phases.Load}
use Rattle.itm_types.specs.declared.access.ReadHint.TheVariants.{R}
use Rattle.itm_types.specs.declared.step.Step.TheVariants as steps
use Rattle.itm_types.specs.declared.call.Call.TheVariants as calls
use Rattle.norec_core.specs.declared.call_parts.Purpose.TheVariants as for
use Rattle.norec_core.specs.Aims as aims
use Rattle.norec_core.specs.declared.call_parts.Taking.TheVariants as takings

-- ## What is played

-- a stage with the step that it asks for, or the end: this one, or a reply
pub data Line : Type 0 where
  Asks : Phase → Option Step → Line
  Ends : Option Answer → Line

-- the engine at this stage, with so many tries
abbrev staged : Core → Phase → ℕ → Core
staged c stage tries = let there : Core = record c { stage = stage; tries = tries } in record there { waits = asked there }

-- the engine once a call has come
abbrev called : Core → Call → Core
called c call = (let mid = came c call false in staged (record mid { gathered = gathered_at (stage_at c call false) mid.arena mid.gathered }) (stage_at c call false) (tries_at (stage_at c call false)))

-- and once the step that it asked for has found this value
abbrev resumed : Core → ℕ → Core
resumed c seen = (let mid = handed c seen in staged (record mid { snapshot = snapshot_after c seen; log = log_after c seen; gathered = gathered_at (stage_after c seen) mid.arena mid.gathered }) (stage_after c seen) (tries_after (stage_after c seen) c.tries))

abbrev line : Core → Phase → Option Answer → Line
line c Idle end = Ends end
line c stage end = Asks stage (asked c)

-- a line for each value found
abbrev lines_after : Core → List ℕ → List Line
lines_after c [] = []
lines_after c (seen ∷ seens) = line (resumed c seen) (stage_after c seen) (ending_after c seen) ∷ lines_after (resumed c seen) seens

-- the lines of a call whose steps find these values
abbrev pub lines : Core → Call → List ℕ → List Line
lines c call seens = line (called c call) (stage_at c call false) (ending_at c call) ∷ lines_after (called c call) seens

-- and the engine after them
abbrev resumed_by : Core → List ℕ → Core
resumed_by c [] = c
resumed_by c (seen ∷ seens) = resumed_by (resumed c seen) seens

abbrev pub engine_after : Core → Call → List ℕ → Core
engine_after c call seens = resumed_by (called c call) seens

-- ## Calls, and where they come

abbrev pub no_props : Props
no_props = record { no_abort = false; no_irrevocable = false; goes_irrevocable = false }

-- over four words, with room for four commits: a transaction is open at this snapshot, with these rows logged and these written
abbrev pub inside : ℕ → ℕ → List LogRow → List Row → Core
inside patience snapshot log writes = record (opening 4 [] patience 4 16 0) { blocks = begun no_props [] no_actions 0 ∷ []; snapshot = snapshot; clock = snapshot; log = log; writes = writes }

abbrev pub outside : ℕ → Core
outside patience = opening 4 [] patience 4 16 0

abbrev pub logged : ℕ → ℕ → LogRow
logged word value = record { word = word; value = value }

-- a whole word, and the second byte of one
abbrev pub all_of : ℕ → ℕ → Row
all_of word value = record { word = word; mask = 0xffffffffffffffff; value = value }

abbrev pub byte_of : ℕ → ℕ → Row
byte_of word byte = record { word = word; mask = 0xff00; value = 256 * byte }

-- eight bytes from a place on, at the first piece and at the second
abbrev pub first : ℕ → Reading
first at = record { purpose = for.Value R U8; at = at; size = 8; number = 0 }

abbrev second : ℕ → Reading
second at = record { purpose = for.Value R U8; at = at; size = 8; number = 1 }

abbrev pub read : ℕ → Call
read at = calls.Read R U8 at

abbrev pub begin : Call
begin = calls.Begin no_props 3

abbrev begins : Phase
begins = Begin (record { props = no_props; room = 3; again = false })

abbrev pub loads : ℕ → Option Step
loads cell = Some (steps.Load cell)

abbrev pub exchanges : ℕ → ℕ → Option Step
exchanges from to = Some (steps.Cas 0 from to)

abbrev pub stores : ℕ → ℕ → Option Step
stores cell value = Some (steps.Store cell value)

-- ## Begins

-- while a writer holds the clock it is loaded again
odd_clocks : lines (outside 3) begin (1 ∷ 3 ∷ 4 ∷ []) ≡ Asks begins (loads 0) ∷ Asks begins (loads 0) ∷ Asks begins (loads 0) ∷ Ends None ∷ []
odd_clocks = refl

odd_clocks_snapshot : (engine_after (outside 3) begin (1 ∷ 3 ∷ 4 ∷ [])).snapshot ≡ 4
odd_clocks_snapshot = refl

-- as often as the patience says
busy : lines (outside 3) begin (1 ∷ 3 ∷ 5 ∷ []) ≡ Asks begins (loads 0) ∷ Asks begins (loads 0) ∷ Asks begins (loads 0) ∷ Ends (Some (Busy 5)) ∷ []
busy = refl

-- ## Reads

-- one word after the other
two_words_read : lines (inside 8 6 [] []) (read 4) (7 ∷ 6 ∷ 9 ∷ 6 ∷ [])
    ≡ Asks (Load (first 4)) (loads 1)
    ∷ Asks (Confirm (first 4) 7) (loads 0)
    ∷ Asks (Load (second 4)) (loads 2)
    ∷ Asks (Confirm (second 4) 9) (loads 0)
    ∷ Ends None
    ∷ []
two_words_read = refl

two_words_log : (engine_after (inside 8 6 [] []) (read 4) (7 ∷ 6 ∷ 9 ∷ 6 ∷ [])).log ≡ logged 0 7 ∷ logged 1 9 ∷ []
two_words_log = refl

-- the clock has moved on by a commit of another: the log is compared, and the word is loaded again and confirmed
abbrev reader : Core
reader = inside 8 0 (logged 0 7 ∷ []) []

abbrev after_a_commit : List ℕ
after_a_commit = 9 ∷ 2 ∷ 2 ∷ 7 ∷ 2 ∷ 5 ∷ 2 ∷ []

read_after_a_commit : lines reader (read 8) after_a_commit
    ≡ Asks (Load (first 8)) (loads 2)
    ∷ Asks (Confirm (first 8) 9) (loads 0)
    ∷ Asks (RoundStart (aims.Read (first 8))) (loads 0)
    ∷ Asks (RoundRow (aims.Read (first 8)) 0) (loads 1)
    ∷ Asks (RoundEnd (aims.Read (first 8))) (loads 0)
    ∷ Asks (Load (first 8)) (loads 2)
    ∷ Asks (Confirm (first 8) 5) (loads 0)
    ∷ Ends None
    ∷ []
read_after_a_commit = refl

read_after_a_commit_log : (engine_after reader (read 8) after_a_commit).log ≡ logged 0 7 ∷ logged 1 5 ∷ []
read_after_a_commit_log = refl

read_after_a_commit_snapshot : (engine_after reader (read 8) after_a_commit).snapshot ≡ 2
read_after_a_commit_snapshot = refl

-- what the write set has is not loaded
first_word_covered : lines (inside 8 0 [] (all_of 0 7 ∷ [])) (read 4) (9 ∷ 0 ∷ []) ≡ Asks (Load (second 4)) (loads 2) ∷ Asks (Confirm (second 4) 9) (loads 0) ∷ Ends None ∷ []
first_word_covered = refl

-- a word of which it has one byte is loaded
byte_covered : lines (inside 8 0 [] (byte_of 1 0xab ∷ [])) (read 8) (7 ∷ 0 ∷ []) ≡ Asks (Load (first 8)) (loads 2) ∷ Asks (Confirm (first 8) 7) (loads 0) ∷ Ends None ∷ []
byte_covered = refl

-- a word that was read takes no step, also under a part that was written since; the piece in the next word does
logged_word : lines (inside 8 0 (logged 0 7 ∷ []) []) (read 0) [] ≡ Ends None ∷ []
logged_word = refl

logged_under_a_part : lines (inside 8 0 (logged 1 7 ∷ []) (byte_of 1 0xab ∷ [])) (read 8) [] ≡ Ends None ∷ []
logged_under_a_part = refl

first_word_logged : lines (inside 8 0 (logged 0 7 ∷ []) []) (read 4) (9 ∷ 0 ∷ []) ≡ Asks (Load (second 4)) (loads 2) ∷ Asks (Confirm (second 4) 9) (loads 0) ∷ Ends None ∷ []
first_word_logged = refl

-- ## Commits

-- one that wrote nothing, after three writers
readonly_commit : lines (inside 8 6 (logged 0 7 ∷ []) []) calls.Commit [] ≡ Ends (Some (Committed 3 false)) ∷ []
readonly_commit = refl

commit_outside : lines (outside 8) calls.Commit [] ≡ Ends None ∷ []
commit_outside = refl

-- the rows in their order: of a part of a word the word is loaded first
two_rows : lines (inside 8 4 [] (byte_of 2 0xab ∷ all_of 0 8 ∷ [])) calls.Commit (4 ∷ 0x111111 ∷ 0 ∷ 0 ∷ 0 ∷ [])
    ≡ Asks (Exchange takings.Commit) (exchanges 4 5)
    ∷ Asks (BackLoad takings.Commit 0) (loads 3)
    ∷ Asks (Store takings.Commit 0 (Some 0x111111)) (stores 3 0x11ab11)
    ∷ Asks (Store takings.Commit 1 None) (stores 1 8)
    ∷ Asks Free (stores 0 6)
    ∷ Ends (Some (Committed 2 true))
    ∷ []
two_rows = refl

byte_after_a_round : lines (inside 8 0 (logged 0 7 ∷ []) (byte_of 1 0xab ∷ [])) calls.Commit (2 ∷ 2 ∷ 7 ∷ 2 ∷ 2 ∷ 0x111111 ∷ 0 ∷ 0 ∷ [])
    ≡ Asks (Exchange takings.Commit) (exchanges 0 1)
    ∷ Asks (RoundStart (aims.Take takings.Commit)) (loads 0)
    ∷ Asks (RoundRow (aims.Take takings.Commit) 0) (loads 1)
    ∷ Asks (RoundEnd (aims.Take takings.Commit)) (loads 0)
    ∷ Asks (Exchange takings.Commit) (exchanges 2 3)
    ∷ Asks (BackLoad takings.Commit 0) (loads 2)
    ∷ Asks (Store takings.Commit 0 (Some 0x111111)) (stores 2 0x11ab11)
    ∷ Asks Free (stores 0 4)
    ∷ Ends (Some (Committed 1 true))
    ∷ []
byte_after_a_round = refl

-- the second exchange fails too
two_rounds : lines (inside 8 0 [] (all_of 0 8 ∷ [])) calls.Commit (2 ∷ 2 ∷ 2 ∷ 4 ∷ 4 ∷ 4 ∷ 4 ∷ 0 ∷ 0 ∷ [])
    ≡ Asks (Exchange takings.Commit) (exchanges 0 1)
    ∷ Asks (RoundStart (aims.Take takings.Commit)) (loads 0)
    ∷ Asks (RoundEnd (aims.Take takings.Commit)) (loads 0)
    ∷ Asks (Exchange takings.Commit) (exchanges 2 3)
    ∷ Asks (RoundStart (aims.Take takings.Commit)) (loads 0)
    ∷ Asks (RoundEnd (aims.Take takings.Commit)) (loads 0)
    ∷ Asks (Exchange takings.Commit) (exchanges 4 5)
    ∷ Asks (Store takings.Commit 0 None) (stores 1 8)
    ∷ Asks Free (stores 0 6)
    ∷ Ends (Some (Committed 2 true))
    ∷ []
two_rounds = refl

-- the fourth is done by another while this one waits
full_after_a_round : lines (inside 8 6 (logged 0 7 ∷ []) (all_of 0 8 ∷ [])) calls.Commit (8 ∷ 8 ∷ 7 ∷ 8 ∷ [])
    ≡ Asks (Exchange takings.Commit) (exchanges 6 7)
    ∷ Asks (RoundStart (aims.Take takings.Commit)) (loads 0)
    ∷ Asks (RoundRow (aims.Take takings.Commit) 0) (loads 1)
    ∷ Asks (RoundEnd (aims.Take takings.Commit)) (loads 0)
    ∷ Ends (Some (Full 4))
    ∷ []
full_after_a_round = refl

-- ## Rounds that fail

-- a word has changed: no more of the log is loaded
changed_word : lines (inside 8 0 (logged 0 7 ∷ logged 3 9 ∷ logged 1 5 ∷ []) []) (read 16) (4 ∷ 2 ∷ 2 ∷ 7 ∷ 8 ∷ [])
    ≡ Asks (Load (first 16)) (loads 3)
    ∷ Asks (Confirm (first 16) 4) (loads 0)
    ∷ Asks (RoundStart (aims.Read (first 16))) (loads 0)
    ∷ Asks (RoundRow (aims.Read (first 16)) 0) (loads 1)
    ∷ Asks (RoundRow (aims.Read (first 16)) 1) (loads 4)
    ∷ Ends (Some (Conflict 2 (Some 3)))
    ∷ []
changed_word = refl

-- a round that finds the clock odd is spent, and the next one begins with the clock
odd_round : lines (inside 2 0 (logged 0 7 ∷ []) []) (read 8) (9 ∷ 1 ∷ 1 ∷ 2 ∷ 7 ∷ 2 ∷ 9 ∷ 2 ∷ [])
    ≡ Asks (Load (first 8)) (loads 2)
    ∷ Asks (Confirm (first 8) 9) (loads 0)
    ∷ Asks (RoundStart (aims.Read (first 8))) (loads 0)
    ∷ Asks (RoundStart (aims.Read (first 8))) (loads 0)
    ∷ Asks (RoundRow (aims.Read (first 8)) 0) (loads 1)
    ∷ Asks (RoundEnd (aims.Read (first 8))) (loads 0)
    ∷ Asks (Load (first 8)) (loads 2)
    ∷ Asks (Confirm (first 8) 9) (loads 0)
    ∷ Ends None
    ∷ []
odd_round = refl

-- two rounds between whose clock loads another commits, and no third one
patience_at_a_commit : lines (inside 2 0 (logged 0 7 ∷ []) (all_of 1 8 ∷ [])) calls.Commit (2 ∷ 2 ∷ 7 ∷ 4 ∷ 4 ∷ 7 ∷ 6 ∷ [])
    ≡ Asks (Exchange takings.Commit) (exchanges 0 1)
    ∷ Asks (RoundStart (aims.Take takings.Commit)) (loads 0)
    ∷ Asks (RoundRow (aims.Take takings.Commit) 0) (loads 1)
    ∷ Asks (RoundEnd (aims.Take takings.Commit)) (loads 0)
    ∷ Asks (RoundStart (aims.Take takings.Commit)) (loads 0)
    ∷ Asks (RoundRow (aims.Take takings.Commit) 0) (loads 1)
    ∷ Asks (RoundEnd (aims.Take takings.Commit)) (loads 0)
    ∷ Ends (Some (Conflict 6 None))
    ∷ []
patience_at_a_commit = refl

-- a round that succeeds counts as well
patience_at_an_exchange : lines (inside 1 0 [] (all_of 0 8 ∷ [])) calls.Commit (2 ∷ 2 ∷ 2 ∷ 4 ∷ [])
    ≡ Asks (Exchange takings.Commit) (exchanges 0 1)
    ∷ Asks (RoundStart (aims.Take takings.Commit)) (loads 0)
    ∷ Asks (RoundEnd (aims.Take takings.Commit)) (loads 0)
    ∷ Asks (Exchange takings.Commit) (exchanges 2 3)
    ∷ Ends (Some (Conflict 4 None))
    ∷ []
patience_at_an_exchange = refl

patience_at_a_read : lines (inside 1 0 [] []) (read 0) (7 ∷ 2 ∷ 2 ∷ 2 ∷ 7 ∷ 4 ∷ [])
    ≡ Asks (Load (first 0)) (loads 1)
    ∷ Asks (Confirm (first 0) 7) (loads 0)
    ∷ Asks (RoundStart (aims.Read (first 0))) (loads 0)
    ∷ Asks (RoundEnd (aims.Read (first 0))) (loads 0)
    ∷ Asks (Load (first 0)) (loads 1)
    ∷ Asks (Confirm (first 0) 7) (loads 0)
    ∷ Ends (Some (Conflict 4 None))
    ∷ []
patience_at_a_read = refl

-- a round that fails leaves the snapshot and the log
failed_round_snapshot : (engine_after (inside 2 0 (logged 0 7 ∷ []) (all_of 1 8 ∷ [])) calls.Commit (2 ∷ 2 ∷ 7 ∷ 4 ∷ [])).snapshot ≡ 0
failed_round_snapshot = refl
