-- Lower-case digits are those of the bytes that they say.
use Rattle.std.proofs.Common.{◌≡◌, ℕ, zero, suc, ◌+◌, ◌-◌, ◌*◌, ◌/◌, ◌%◌, ◌<◌, ◌≤◌, Bool, true, cond, eqb, leb, not, ◌&&◌, List, [], ◌∷◌, length, get_or, Option, Some, None, Ok, Err, refl, sym, ap, ◌∙◌, arith, inl, inr, bytes_eq, codes}
use Rattle.history_reader.proofs.Common.{IfOk, IfOk-at_ok, IfSome, IsBytes, IsMemory, MAX_ARENA, and_parts, are_words, arena_bytes, arena_text, bind_if, bytes_eq-Decides, bytes_if, choice_if, decode_of-even, decode_of-hex, decode_pairs, decoded, digit_or_error, encode_lower, encode_with, eqb-true, hex_digit_value, is_lower_digit, is_lower_hex, le-leb, leb-true, list_all, lower_digits, lt-leb, memory_bytes, ne_eqb, or_cases, pair_value, restart_bytes, sized, value_at}
use Rattle.script_fields.specs.declared.fault.FaultKind.TheVariants as kinds
use Rattle.history_reader.{proofs.Values.hex_is, proofs.Values.some_said, proofs.Exactness.Fields.Exact}

-- ## One digit

digit_at : (v : ℕ) → v < 10 → get_or lower_digits v 0 ≡ 48 + v
digit_at (suc (suc (suc (suc (suc (suc (suc (suc (suc (suc v)))))))))) h = absurd (omega arith)
digit_at v h = refl

letter_at : (v : ℕ) → v < 6 → get_or lower_digits (10 + v) 0 ≡ 97 + v
letter_at (suc (suc (suc (suc (suc (suc v)))))) h = absurd (omega arith)
letter_at v h = refl

digit_back : (c : ℕ) → is_lower_digit c ≡ true → IfSome (hex_digit_value c) (λ v. (v < 16) × (get_or lower_digits v 0 ≡ c))
digit_back c h =
    elim (or_cases (leb 48 c && leb c 57) (leb 97 c && leb c 102) h) [
      | inl d ↦
          let p = and_parts (leb 48 c) (leb c 57) d in
          let low : 48 ≤ c = leb-true 48 c p.0 in
          let high : c ≤ 57 = leb-true c 57 p.1 in
          rw (lt-leb 65 c (omega arith), lt-leb 97 c (omega arith), p.0, p.1) (omega arith, digit_at (c - 48) (omega arith) ∙ omega arith)
      | inr d ↦
          let p = and_parts (leb 97 c) (leb c 102) d in
          let low : 97 ≤ c = leb-true 97 c p.0 in
          let high : c ≤ 102 = leb-true c 102 p.1 in
          let w : c - 87 ≡ 10 + (c - 97) = omega arith in
          rw (le-leb 65 c (omega arith), lt-leb c 70 (omega arith), p.0, p.1) (omega arith, ap (λ (k : ℕ). get_or lower_digits k 0) w ∙ letter_at (c - 97) (omega arith) ∙ omega arith)
    ]

-- ## Two digits

some_digit : (c i : ℕ) (o : Option ℕ) (P : ℕ → Type 0) → IfSome o P → IfOk (digit_or_error c i o) P
some_digit c i (Some v) P h = h
some_digit c i None P h = tt

pair_back : (high low i : ℕ) → is_lower_digit high ≡ true → is_lower_digit low ≡ true → IfOk (pair_value high low i) (λ b. (get_or lower_digits (b / 16) 0 ≡ high) × (get_or lower_digits (b % 16) 0 ≡ low))
pair_back high low i h l =
    bind_if _ _ (value_at high i) _ (some_digit high i (hex_digit_value high) _ (digit_back high h)) (λ m p.
    bind_if _ _ (value_at low (i + 1)) _ (some_digit low (i + 1) (hex_digit_value low) _ (digit_back low l)) (λ n q.
    let small : n < 16 = q.0 in
    let front : (m * 16 + n) / 16 ≡ m = omega arith in
    let back : (m * 16 + n) % 16 ≡ n = omega arith in
    (ap (λ (k : ℕ). get_or lower_digits k 0) front ∙ p.1, ap (λ (k : ℕ). get_or lower_digits k 0) back ∙ q.1)))

-- ## All of them

pairs_back : (i : ℕ) (s : List ℕ) → list_all is_lower_digit s ≡ true → IfOk (decode_pairs i s) (λ bytes. s ≡ encode_lower bytes)
unfolding decode_pairs encode_with
pairs_back i [] a = refl
pairs_back i (d ∷ []) a = tt
pairs_back i (high ∷ low ∷ rest) a =
    let first = and_parts (is_lower_digit high) (list_all is_lower_digit (low ∷ rest)) a in
    let second = and_parts (is_lower_digit low) (list_all is_lower_digit rest) first.1 in
    bind_if _ _ (pair_value high low i) _ (pair_back high low i first.0 second.0) (λ b p. bind_if _ _ (decode_pairs (i + 2) rest) _ (pairs_back (i + 2) rest second.1) (λ bs more. cc (p.0, p.1, more)))

-- what was read of digits, and how many there were
record Said (f bytes : List ℕ) : Type 0 where
  pub same : f ≡ encode_lower bytes
  pub are : IsBytes bytes
  pub some : 0 < length bytes
  pub count : length f ≡ 2 * length bytes

lower_exact : (f : List ℕ) → is_lower_hex f ≡ true → Said f (decoded f)
lower_exact f h =
    let a = and_parts (not (eqb (length f) 0)) (eqb (length f % 2) 0 && list_all is_lower_digit f) h in
    let b = and_parts (eqb (length f % 2) 0) (list_all is_lower_digit f) a.1 in
    let d = decode_of-hex f (hex_is f h) in
    record {
      same = IfOk-at_ok (λ bytes. f ≡ encode_lower bytes) (sym (decode_of-even f (eqb-true (length f % 2) 0 b.0)) ∙ d.0) (pairs_back 0 f b.1);
      are = d.2;
      some = some_said f h;
      count = d.1;
    }

-- so is each list of bytes that is read
bytes_said : (fits : Bool) (f : List ℕ) (P : List ℕ → Type 0) → (fits ≡ true → Said f (decoded f) → P (decoded f)) → IfOk (bytes_if fits f) P
bytes_said fits f P h =
    choice_if P (is_lower_hex f) (cond fits (Ok (decoded f)) (Err kinds.Range)) (Err kinds.Operand)
    (λ form. choice_if P fits (Ok (decoded f)) (Err kinds.Range) (λ few. h few (lower_exact f form)) (λ many. tt)) (λ bad. tt)

pub sized_is : (n : ℕ) → Exact (sized n) encode_lower (λ bytes. (length bytes ≡ n) × IsBytes bytes)
unfolding sized
sized_is n f = bytes_said (eqb (length f / 2) n) f _ (λ fits s. (s.same, (omega (arith, s.count, eqb-true (length f / 2) n fits), s.are)))

pub memory_is : (limit : ℕ) → Exact (memory_bytes limit) encode_lower (IsMemory limit)
unfolding memory_bytes
memory_is limit f =
    bytes_said (are_words limit (length f)) f _ (λ fits s.
    let a = and_parts (leb 16 (length f)) (leb (length f) (2 * limit) && eqb (length f % 16) 0) fits in
    let b = and_parts (leb (length f) (2 * limit)) (eqb (length f % 16) 0) a.1 in
    let twice = s.count in
    let low = leb-true 16 (length f) a.0 in
    let high = leb-true (length f) (2 * limit) b.0 in
    let words = eqb-true (length f % 16) 0 b.1 in
    (s.same, (s.are, omega arith, omega arith, omega arith)))

some_text : (bytes : List ℕ) → 0 < length bytes → arena_text bytes ≡ encode_lower bytes
some_text bytes full = ap (λ (b : Bool). cond b (codes "-") (encode_lower bytes)) (ne_eqb (length bytes) 0 (λ z. omega arith))

dash : (f : List ℕ) → bytes_eq f (codes "-") ≡ true → (f ≡ arena_text []) × IsBytes []
dash f h = ((bytes_eq-Decides f (codes "-")).0 h, λ i. omega arith)

pub arena_is : Exact arena_bytes arena_text (λ bytes. IsBytes bytes × (length bytes ≤ MAX_ARENA))
unfolding arena_bytes
arena_is f =
    choice_if _ (bytes_eq f (codes "-")) (Ok []) (bytes_if (leb (length f) (2 * MAX_ARENA)) f) (λ none. let d = dash f none in (d.0, (d.1, omega arith)))
    (λ some. bytes_said (leb (length f) (2 * MAX_ARENA)) f _ (λ fits s. (s.same ∙ sym (some_text (decoded f) s.some), (s.are, omega (arith, s.count, leb-true _ _ fits)))))

pub restart_is : (n : ℕ) → Exact (restart_bytes n) arena_text (λ bytes. IsBytes bytes × (length bytes ≡ n))
unfolding restart_bytes sized
restart_is n f =
    choice_if _ (bytes_eq f (codes "-")) (cond (eqb n 0) (Ok []) (Err kinds.Range)) (sized n f)
    (λ none. choice_if _ (eqb n 0) (Ok []) (Err kinds.Range) (λ zero. let d = dash f none in (d.0, (d.1, sym (eqb-true n 0 zero)))) (λ more. tt))
    (λ some. bytes_said (eqb (length f / 2) n) f _ (λ fits s. (s.same ∙ sym (some_text (decoded f) s.some), (s.are, omega (arith, s.count, eqb-true (length f / 2) n fits)))))
