-- What a call of C's came to.
use Rattle.std.specs.Prelude.{◌≡◌, ℕ, Bool, false, Option, None, Some}
use Rattle.std.specs.Arc.{arc_value}
use Rattle.itm_types.specs.declared.access.Width.{Width}
use Rattle.itm_types.specs.declared.access.ReadHint.TheVariants.{R}
use Rattle.itm_types.specs.declared.call.Call.{Call}
use Rattle.itm_types.specs.declared.call.Call.TheVariants.{Read}
use Rattle.norec_core.specs.declared.answer.Answer.{Answer}
use Rattle.call_rules.specs.CallResults.{IsAnswered, IsThreadStarved}
use Rattle.call_rules.specs.Standing.{start_of}
use Rattle.itm_c.specs.Codes.{code_of, value_in}
use Rattle.itm_c.specs.Kept.{HoldsClient}
use Rattle.itm_c.specs.declared.client.Client.{Client}
use Rattle.itm_c.specs.declared.kept.Kept.{Kept}
use Rattle.itm_c.specs.declared.number.Number.{Number}

-- this very call of the thread was answered so, or memory was refused to it and nothing is changed; the thread is of the same words
abbrev pub Comes : Client → Call → Bool → Option Answer → Client → Type 0
Comes c call again (Some a) d = IsAnswered (arc_value c.words) (start_of c.thread call again) a d.thread.pass d.thread.engine × (arc_value d.words ≡ arc_value c.words)
Comes c call again None d = IsThreadStarved (arc_value c.words) c.thread call d.thread × (arc_value d.words ≡ arc_value c.words)

-- the call came back, and the number tells with what
pub record Told (c : Client) (call : Call) (again : Bool) (code : ℕ) (d : Client) : Type 0 where
  pub answer : Option Answer
  pub code_is : code ≡ code_of answer
  pub comes : Comes c call again answer d

-- the same of a call that takes no memory
pub record Answered (c : Client) (call : Call) (code : ℕ) (d : Client) : Type 0 where
  pub answer : Answer
  pub code_is : code ≡ code_of (Some answer)
  pub comes : Comes c call false (Some answer) d

-- the same of a read, and the value is the number of the bytes that it was answered
pub record ReadTold (c : Client) (width : Width) (at : ℕ) (n : Number) (d : Client) : Type 0 where
  pub answer : Option Answer
  pub code_is : n.code ≡ code_of answer
  pub value_is : n.value ≡ value_in answer
  pub comes : Comes c (Read R width at) false answer d

-- ## Of handles, before and after

abbrev pub Tells : Option Kept → Call → Bool → ℕ → Option Kept → Type 0
Tells old call again code new = HoldsClient (λ c. HoldsClient (λ d. Told c call again code d) new) old

abbrev pub Answers : Option Kept → Call → ℕ → Option Kept → Type 0
Answers old call code new = HoldsClient (λ c. HoldsClient (λ d. Answered c call code d) new) old

abbrev pub TellsRead : Option Kept → Width → ℕ → Number → Option Kept → Type 0
TellsRead old width at n new = HoldsClient (λ c. HoldsClient (λ d. ReadTold c width at n d) new) old
