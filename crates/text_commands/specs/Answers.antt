-- How a command answers its text: what it reads of it, what it writes, and what it says.
use Rattle.std.specs.Prelude.{◌≡◌, ◌⊎◌, ℕ, Bool, true, List, take, Option, Result, Ok, Err}
use Rattle.std.specs.Io.KnownBytes.{Appends, Keeps}
use Rattle.text_commands.specs.declared.failure.Failure.{Failure}
use Rattle.text_commands.specs.declared.failure.Failure.TheVariants.{Faulty, NoMemory, NoThread, Reading, Writing}
use Rattle.text_commands.specs.Lines.{failure_line, failure_status}
use Rattle.tx_history.specs.Spelling.{IsCut}

-- what was read of a text, or why nothing was
abbrev pub Reads : {A F : Type 0} → Result A (Failure F) → Result A F → Type 0
Reads (Ok a) read = read ≡ Ok a
Reads (Err (Faulty f)) read = read ≡ Err f
Reads (Err NoMemory) read = Unit {0}
Reads (Err NoThread) read = ⊥
Reads (Err Reading) read = Unit {0}
Reads (Err Writing) read = ⊥

-- What a command does with what it has read: which text it writes, and with which end; what the writer got where a write failed; and of each end the status and what is said. Of a fault of the text it says this line. And whether it has threads, which may be refused.
pub record Command (A F T : Type 0) : Type 1 where
  pub writes : A → T → List ℕ → Type 0
  pub cut : A → Option (List ℕ) → Option (List ℕ) → Type 0
  pub status : T → ℕ
  pub says : T → List ℕ
  pub line : F → List ℕ
  pub threads : Bool

-- a beginning of a text that the command writes
abbrev pub HasFront : {A T : Type 0} → (A → T → List ℕ → Type 0) → A → Option (List ℕ) → Option (List ℕ) → Type 0
HasFront {A} {T} writes a old new = (end : T) × (text : List ℕ) × (n : ℕ) × writes a end text × Appends old new (take n text)

-- what the writer got, by how that ended and by what the text is read as: all that the command writes; where a write failed, what its `cut` says; and else nothing. A thread is refused only to a command that has threads, after it has read its text.
abbrev pub Outputs : {A F T : Type 0} → Command A F T → Result T (Failure F) → Result A F → Option (List ℕ) → Option (List ℕ) → Type 0
Outputs {A} {F} {T} c (Ok end) read old new = (a : A) × (text : List ℕ) × (read ≡ Ok a) × c.writes a end text × Appends old new text
Outputs {A} {F} {T} c (Err Writing) read old new = (a : A) × (read ≡ Ok a) × c.cut a old new
Outputs {A} {F} {T} c (Err (Faulty f)) read old new = (read ≡ Err f) × Keeps old new
Outputs {A} {F} {T} c (Err NoMemory) read old new = Keeps old new
Outputs {A} {F} {T} c (Err NoThread) read old new = (c.threads ≡ true) × (a : A) × (read ≡ Ok a) × Keeps old new
Outputs {A} {F} {T} c (Err Reading) read old new = Keeps old new

-- the errors got the lines, and the status is the one that is due; or, where writing them failed, they got a part of them, and it is 5
abbrev pub Says : List ℕ → ℕ → ℕ → Option (List ℕ) → Option (List ℕ) → Type 0
Says lines due status old new = ((status ≡ due) × Appends old new lines) ⊎ ((status ≡ 5) × IsCut old new lines)

-- what the command says in the end
abbrev pub Ends : {A F T : Type 0} → Command A F T → Result T (Failure F) → ℕ → Option (List ℕ) → Option (List ℕ) → Type 0
Ends c (Ok end) status old new = Says (c.says end) (c.status end) status old new
Ends c (Err failure) status old new = Says (failure_line c.line failure) (failure_status failure) status old new

-- the command ended in one of its ways
abbrev pub Answers : {A F T : Type 0} → Command A F T → ℕ → Result A F → Option (List ℕ) → Option (List ℕ) → Option (List ℕ) → Option (List ℕ) → Type 0
Answers {A} {F} {T} c status read old new errors_old errors_new =
    (done : Result T (Failure F)) × Outputs c done read old new × Ends c done status errors_old errors_new
