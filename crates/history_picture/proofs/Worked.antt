-- Cases that were worked out by hand.
use Rattle.std.proofs.Common.{◌≡◌, [], true, false, None, Some, refl, arith, codes}
use Rattle.history_picture.proofs.Common.{call_at, comes_before, flaw_text, judgement_text, mark_text, threads_below}
use Rattle.std.proofs.lemmas.Fmt.{decimal_digit}
use Rattle.history_picture.specs.declared.note.Judgement.TheVariants.{Legal}

-- a thread with no attempt has no lane
no_lane : threads_below [] 3 ≡ []
no_lane = refl

-- of those that saw as many commits the one that is the next one comes last, whatever its place in the text; then those that saw it
last_of_them : comes_before (record { at = 2; committed = false; place = 7 }) (record { at = 2; committed = true; place = 1 }) ≡ true
last_of_them = refl

before_later : comes_before (record { at = 2; committed = true; place = 7 }) (record { at = 3; committed = false; place = 1 }) ≡ true
before_later = refl

not_twice : comes_before (record { at = 2; committed = true; place = 7 }) (record { at = 2; committed = true; place = 7 }) ≡ false
not_twice = refl

-- nothing is marked of a legal history
unmarked : mark_text None 0 5 2 ≡ []
unfolding mark_text
unmarked = refl

marked : mark_text (Some 4) 4 5 2 ≡ codes "<g transform=\"translate(5 20)\"><rect class=\"bad\" width=\"1\" height=\"9\" rx=\".2\"/><text class=\"note\" x=\".5\" y=\"9.8\">bad</text></g>\n"
unfolding mark_text flaw_text
marked = rw (decimal_digit 5 (omega arith), decimal_digit 2 (omega arith)) refl

legal : judgement_text Legal ≡ codes "legal"
unfolding judgement_text
legal = refl

no_call : call_at [] (Some 0) (Some 0) ≡ None
no_call = refl
