use Rattle.norec_world.proofs.{AllFit, AreWords, Cells, bytes_of, length-words_from, to_le_bytes, w64, words_of, words_of-bytes_of, arith, ◌≡◌, ◌<◌, ◌+◌, ◌*◌, ◌/◌, ◌++◌, length, take, drop, sym, ap, ◌∙◌, subst, ℕ, List, slice_set}
use Rattle.{itm_types.proofs.WordLists.are_words-bytes_of, itm_types.proofs.WordLists.fit-set, itm_types.proofs.Words.bytes_of-set, std.proofs.lemmas.List.with_items_is}
use Rattle.norec_world.proofs.memory.Memory.set_word.Goals as goal

-- a word's bytes in whole words are replaced
replaced : (b : List ℕ) (i v : ℕ) → AreWords b → i < length (words_of b) → take (i * 8) b ++ to_le_bytes w64 v ++ drop (i * 8 + 8) b ≡ bytes_of (slice_set (words_of b) i v)
replaced b i v a l =
    subst (λ (x : List ℕ). take (i * 8) x ++ to_le_bytes w64 v ++ drop (i * 8 + 8) x ≡ bytes_of (slice_set (words_of b) i v)) a.again (bytes_of-set (words_of b) i v l)

pub put_word-requires : goal.put_word-requires
put_word-requires c =
    let at : c.args.word < length (words_of c.self.inside.bytes.items) = subst (λ (m : Cells). c.args.word < length m.words) (sym c.self.view_is) c.requires in
    let n = length-words_from (length c.self.inside.bytes.items / 8) c.self.inside.bytes.items in
    let same : length c.deref_mut.result.now ≡ length c.self.inside.bytes.items = ap length c.deref_mut.ensures.value in
    omega arith

abbrev cells_of : ℕ → List ℕ → Cells
cells_of clock words = record { clock = clock; words = words }

inside_is : (c : goal.After-self-1) → c.args.word < length (words_of c.self.inside.bytes.items)
inside_is c = subst (λ (m : Cells). c.args.word < length m.words) (sym c.self.view_is) c.requires

stored : (c : goal.After-self-1) → c.put_word.new.bytes ≡ bytes_of (slice_set (words_of c.self.inside.bytes.items) c.args.word c.args.value)
stored c =
    (c.put_word.ensures ∙ ap (λ (b : List ℕ). take (c.args.word * 8) b ++ to_le_bytes w64 c.args.value ++ drop (c.args.word * 8 + 8) b) c.deref_mut.ensures.value)
    ∙ replaced c.self.inside.bytes.items c.args.word c.args.value c.self.invariant (inside_is c)

same_length : (c : goal.After-self-1) → length c.put_word.new.bytes ≡ c.self.inside.bytes.len
same_length c = let a = c.put_word.auto.bytes in let e = ap length c.deref_mut.ensures.value in let o = c.self.inside.bytes.ok.0 in omega arith

items_are : (c : goal.After-self-1) → take c.self.inside.bytes.len (c.put_word.new.bytes ++ drop (length c.put_word.new.bytes) c.self.inside.bytes.items)
    ≡ bytes_of (slice_set (words_of c.self.inside.bytes.items) c.args.word c.args.value)
items_are c = with_items_is c.self.inside.bytes c.put_word.new.bytes (same_length c) ∙ stored c

all_fit : (c : goal.After-self-1) → AllFit (slice_set (words_of c.self.inside.bytes.items) c.args.word c.args.value)
all_fit c = fit-set (words_of c.self.inside.bytes.items) c.args.word c.args.value c.self.invariant.fit (omega arith)

pub invariant_of-self : goal.invariant_of-self
invariant_of-self c = subst AreWords (sym (items_are c)) (are_words-bytes_of _ (all_fit c))

pub returns-clause-word : goal.returns-clause-word
returns-clause-word c =
    let words : words_of (take c.self.inside.bytes.len (c.put_word.new.bytes ++ drop (length c.put_word.new.bytes) c.self.inside.bytes.items))
    ≡ slice_set (words_of c.self.inside.bytes.items) c.args.word c.args.value = ap words_of (items_are c) ∙ words_of-bytes_of _ (all_fit c) in
    ap (λ (x : List ℕ). cells_of c.self.inside.clock x) words ∙ ap (λ (m : Cells). cells_of m.clock (slice_set m.words c.args.word c.args.value)) c.self.view_is

pub returns-clause-fit : goal.returns-clause-fit
returns-clause-fit c = subst AllFit (sym (ap words_of (items_are c) ∙ words_of-bytes_of _ (all_fit c))) (all_fit c)
