-- A call that is read, with its reply, is so spelled.
use Rattle.std.proofs.Common.{◌≡◌, ℕ, zero, suc, ◌%◌, ◌≤◌, true, false, cond, List, [], ◌∷◌, Result, Ok, Err, refl, sym, ap, subst, ◌∙◌, arith, decimal, bytes_eq, codes, ◌++◌}
use Rattle.history_reader.proofs.Common.{FaultKind, IfOk, IfOk-weaker, IsBytes, IsDatum, IsReply, Refusal, Reply, ReplyKind, Width, accepted, bind_if, block_props, both, both_if, byte, bytes_eq-Decides, choice_if, datum, encode_lower, equals, exactly, lookup, low, next, next_three, none, number, number_of, one, one_operand, props_names, props_text, ranged, refusal_of, refused, reply_fields, reply_of, scope, scope_text, size_of, sized, three_operands, two_operands, with_reply}
use Rattle.itm_types.specs.declared.call.Reply.TheVariants as replies
use Rattle.script_fields.specs.declared.fault.FaultKind.TheVariants as kinds
use Rattle.history_reader.specs.declared.reply.ReplyKind.TheVariants as answers
use Rattle.history_reader.proofs.Values.{low_is}
use Rattle.history_reader.proofs.Exactness.Fields.{Exact, exactly_is, lookup_if, or_operand_if, ranged_is}
use Rattle.history_reader.proofs.Exactness.Bytes.{sized_is}

-- ## How many fields

pub next_exact : (fs : List (List ℕ)) → IfOk (next fs) (λ x. fs ≡ x.0 ∷ x.1)
unfolding next
next_exact [] = tt
next_exact (f ∷ fs) = refl

pub none_exact : (fs : List (List ℕ)) → IfOk (none fs) (λ u. fs ≡ [])
unfolding none
none_exact [] = refl
none_exact (f ∷ fs) = tt

pub one_exact : (fs : List (List ℕ)) → IfOk (one fs) (λ f. fs ≡ f ∷ [])
unfolding one next none
one_exact (f ∷ []) = refl
one_exact fs = tt

pub three_exact : (fs : List (List ℕ)) → IfOk (next_three fs) (λ x. fs ≡ x.0 ∷ x.1 ∷ x.2 ∷ x.3)
unfolding next_three next
three_exact (f ∷ g ∷ h ∷ fs) = refl
three_exact fs = tt

equals_exact : (fs : List (List ℕ)) → IfOk (equals fs) (λ rest. fs ≡ codes "=" ∷ rest)
unfolding equals next
equals_exact [] = tt
equals_exact (f ∷ fs) = choice_if _ (bytes_eq f (codes "=")) (Ok fs) (Err kinds.Operand) (λ same. ap (λ (g : List ℕ). g ∷ fs) ((bytes_eq-Decides f (codes "=")).0 same)) (λ other. tt)

-- ## Replies

number_back : (n : ℕ) → 1 ≤ n → n ≤ 8 → number_of (refusal_of n) ≡ n
unfolding refusal_of
number_back zero h k = absurd (omega arith)
number_back (suc (suc (suc (suc (suc (suc (suc (suc (suc n))))))))) h k = absurd (omega arith)
number_back n h k = refl

refused_fits : (answer : ReplyKind) (r : Refusal) → IsReply answer (replies.Refused r)
refused_fits answers.Done r = tt
refused_fits answer r = tt

-- fields that are so spelled a reply, which is of the kind
abbrev Replies : ReplyKind → List (List ℕ) → Reply → Type 0
Replies answer fs r = (fs ≡ reply_fields r) × IsReply answer r

refused_exact : (answer : ReplyKind) (fs : List (List ℕ)) → IfOk (refused fs) (Replies answer (codes "refused" ∷ fs))
unfolding refused
refused_exact answer fs =
    bind_if _ _ (one fs) _ (one_exact fs) (λ f e. bind_if _ _ (ranged 1 8 f) _ (ranged_is 1 8 f) (λ n w.
    let number : f ≡ decimal (number_of (refusal_of n)) = w.0 ∙ ap decimal (sym (number_back n w.1.0 w.1.1)) in
    (ap (λ (l : List (List ℕ)). codes "refused" ∷ l) (e ∙ ap (λ (g : List ℕ). g ∷ []) number), refused_fits answer (refusal_of n))))

accepted_exact : (answer : ReplyKind) (f : List ℕ) (fs : List (List ℕ)) → IfOk (accepted answer f fs) (Replies answer (f ∷ fs))
unfolding accepted
accepted_exact answers.Done f fs = bind_if _ _ (exactly (codes "ok") f) _ (exactly_is (codes "ok") f) (λ u word. bind_if _ _ (none fs) _ (none_exact fs) (λ v no. (cc (word.0, no), tt)))
accepted_exact answers.Code f fs =
    bind_if _ _ (exactly (codes "code") f) _ (exactly_is (codes "code") f) (λ u word.
    bind_if _ _ (one fs) _ (one_exact fs) (λ n e. bind_if _ _ (byte n) _ (ranged_is 0 255 n) (λ c w. (cc (word.0, e, w.0), w.1.1))))
accepted_exact (answers.Bytes width) f fs = bind_if _ _ (none fs) _ (none_exact fs) (λ u no. bind_if _ _ (sized (size_of width) f) _ (sized_is (size_of width) f) (λ bytes w. (cc (w.0, no), w.1)))

reply_exact : (answer : ReplyKind) (fs : List (List ℕ)) → IfOk (reply_of answer fs) (Replies answer fs)
unfolding reply_of next
reply_exact answer [] = tt
reply_exact answer (f ∷ fs) =
    choice_if _ (bytes_eq f (codes "refused")) (refused fs) (accepted answer f fs)
    (λ word. subst (λ (g : List ℕ). IfOk (refused fs) (Replies answer (g ∷ fs))) (sym ((bytes_eq-Decides f (codes "refused")).0 word)) (refused_exact answer fs)) (λ other. accepted_exact answer f fs)

-- ## Operands

-- behind operands that are so spelled, and are so, stands a reply
abbrev pub Replied : {A : Type 0} → (A → List (List ℕ)) → (A → Type 0) → ReplyKind → List (List ℕ) → A × Reply → Type 0
Replied texts Is answer fs x = (fs ≡ texts x.0 ++ codes "=" ∷ reply_fields x.1) × (Is x.0 × IsReply answer x.1)

reply_after : {A : Type 0} (ops : Result A FaultKind) (P : A → Type 0) (Q : A × Reply → Type 0) (answer : ReplyKind) (fs : List (List ℕ)) → IfOk ops P
    → ((x : A × Reply) → P x.0 → fs ≡ codes "=" ∷ reply_fields x.1 → IsReply answer x.1 → Q x) → IfOk (with_reply ops answer fs) Q
reply_after ops P Q answer fs h k =
    bind_if _ _ (equals fs) _ (equals_exact fs) (λ rest e.
    IfOk-weaker (both ops (reply_of answer rest)) (λ x. P x.0 × Replies answer rest x.1) Q (λ x b. k x b.0 (e ∙ ap (λ (l : List (List ℕ)). codes "=" ∷ l) b.1.0) b.1.1)
    (both_if P (Replies answer rest) ops (reply_of answer rest) h (reply_exact answer rest)))

pub no_operand_is : (answer : ReplyKind) (fs : List (List ℕ)) → IfOk (with_reply {A = Unit {0}} (Ok tt) answer fs) (Replied {A = Unit {0}} (λ u. []) (λ u. Unit {0}) answer fs)
no_operand_is answer fs = reply_after {A = Unit {0}} (Ok tt) (λ u. Unit {0}) (Replied {A = Unit {0}} (λ u. []) (λ u. Unit {0}) answer fs) answer fs tt (λ x u e r. (e, (tt, r)))

pub one_operand_is : {A : Type 0} (read : List ℕ → Result A FaultKind) (text : A → List ℕ) (Is : A → Type 0) → Exact read text Is
    → (answer : ReplyKind) (fs : List (List ℕ)) → IfOk (one_operand read answer fs) (Replied (λ x. text x ∷ []) Is answer fs)
unfolding next
one_operand_is read text Is h answer [] = tt
one_operand_is read text Is h answer (f ∷ fs) = reply_after (read f) _ _ answer fs (h f) (λ x o e r. (cc (o.0, e), (o.1, r)))

pub two_operands_is : {A B : Type 0} (first : List ℕ → Result A FaultKind) (second : List ℕ → Result B FaultKind) (ta : A → List ℕ) (tb : B → List ℕ) (IsA : A → Type 0) (IsB : B → Type 0)
    → Exact first ta IsA → Exact second tb IsB → (answer : ReplyKind) (fs : List (List ℕ)) → IfOk (two_operands first second answer fs) (Replied (λ x. ta x.0 ∷ tb x.1 ∷ []) (λ x. IsA x.0 × IsB x.1) answer fs)
unfolding next
two_operands_is first second ta tb IsA IsB ha hb answer (f ∷ g ∷ fs) =
    reply_after (both (first f) (second g)) _ _ answer fs (both_if _ _ (first f) (second g) (ha f) (hb g)) (λ x o e r. (cc (o.0.0, o.1.0, e), ((o.0.1, o.1.1), r)))
two_operands_is first second ta tb IsA IsB ha hb answer fs = tt

pub three_operands_is : {A B C : Type 0} (first : List ℕ → Result A FaultKind) (second : List ℕ → Result B FaultKind) (third : List ℕ → Result C FaultKind) (ta : A → List ℕ) (tb : B → List ℕ) (tc : C → List ℕ)
    (IsA : A → Type 0) (IsB : B → Type 0) (IsC : C → Type 0) → Exact first ta IsA → Exact second tb IsB → Exact third tc IsC → (answer : ReplyKind) (fs : List (List ℕ))
    → IfOk (three_operands first second third answer fs) (Replied (λ x. ta x.0 ∷ tb x.1.0 ∷ tc x.1.1 ∷ []) (λ x. IsA x.0 × (IsB x.1.0 × IsC x.1.1)) answer fs)
unfolding next_three next
three_operands_is first second third ta tb tc IsA IsB IsC ha hb hc answer (f ∷ g ∷ h ∷ fs) =
    reply_after (both (first f) (both (second g) (third h))) _ _ answer fs (both_if _ _ (first f) _ (ha f) (both_if _ _ (second g) (third h) (hb g) (hc h)))
    (λ x o e r. (cc (o.0.0, o.1.0.0, o.1.1.0, e), ((o.0.1, (o.1.0.1, o.1.1.1)), r)))
three_operands_is first second third ta tb tc IsA IsB IsC ha hb hc answer fs = tt

-- ## Each kind of operand

pub byte_is : Exact byte (λ n. decimal (n % 256)) (λ n. n ≤ 255)
byte_is f =
    IfOk-weaker (byte f) (λ n. (f ≡ decimal n) × ((0 ≤ n) × (n ≤ 255))) _ (λ n w.
    let small : n ≤ 255 = w.1.1 in
    let same : n ≡ n % 256 = omega arith in
    (w.0 ∙ ap decimal same, small)) (ranged_is 0 255 f)

pub props_is : Exact block_props props_text (λ p. Unit {0})
unfolding block_props
props_is f =
    or_operand_if _ (lookup props_names f) (lookup_if (λ g p. (g ≡ props_text p) × Unit {0}) props_names f
    ((refl, tt), ((refl, tt), ((refl, tt), ((refl, tt), ((refl, tt), ((refl, tt), ((refl, tt), ((refl, tt), tt)))))))))

pub scope_is : Exact scope scope_text (λ outer. Unit {0})
unfolding scope
scope_is f =
    choice_if _ (bytes_eq f (codes "userAbort")) (Ok false) (cond (bytes_eq f (codes "userAbort+outerAbort")) (Ok true) (Err kinds.Operand)) (λ inner. ((bytes_eq-Decides f (codes "userAbort")).0 inner, tt))
    (λ more. choice_if _ (bytes_eq f (codes "userAbort+outerAbort")) (Ok true) (Err kinds.Operand) (λ all. ((bytes_eq-Decides f (codes "userAbort+outerAbort")).0 all, tt)) (λ neither. tt))

pub datum_is : (width : Width) → Exact (datum width) (λ d. encode_lower d.bytes.items) (λ d. (d.width ≡ width) × IsDatum d)
unfolding datum
datum_is width f =
    bind_if _ _ (sized (size_of width) f) _ (sized_is (size_of width) f) (λ bytes w.
    let same : low (size_of width) bytes ≡ bytes = low_is (size_of width) bytes w.1.0 in
    (w.0 ∙ ap encode_lower (sym same), (refl, subst IsBytes (sym same) w.1.1)))
