use Rattle.norec_world.proofs.{Cells, from_le_bytes, length-words_from, w64, words_of, arith, ◌≡◌, ◌<◌, ◌*◌, ◌/◌, length, take, drop, sym, ap, ◌∙◌, subst, ℕ, List, slice_index}
use Rattle.itm_types.proofs.WordLists.{word_at}
use Rattle.norec_world.proofs.memory.Memory.word.Goals as goal

pub get_word-requires : goal.get_word-requires
get_word-requires c =
    let at : c.args.word < length (words_of c.self.inside.bytes.items) = subst (λ (m : Cells). c.args.word < length m.words) (sym c.self.view_is) c.requires in
    let n = length-words_from (length c.self.inside.bytes.items / 8) c.self.inside.bytes.items in
    let same : length c.deref.result.now ≡ length c.self.inside.bytes.items = ap length c.deref.ensures.value in
    omega arith

pub returns : goal.returns
returns c =
    let at : c.args.word < length (words_of c.self.inside.bytes.items) = subst (λ (m : Cells). c.args.word < length m.words) (sym c.self.view_is) c.requires in
    let n = length-words_from (length c.self.inside.bytes.items / 8) c.self.inside.bytes.items in
    let here : slice_index (words_of c.self.inside.bytes.items) c.args.word ≡ from_le_bytes w64 (take 8 (drop (c.args.word * 8) c.self.inside.bytes.items)) =
    word_at (length c.self.inside.bytes.items / 8) c.args.word c.self.inside.bytes.items (omega arith) in
    c.get_word.ensures.value ∙ (ap (λ (b : List ℕ). from_le_bytes w64 (take 8 (drop (c.args.word * 8) b))) c.deref.ensures.value
    ∙ (sym here ∙ ap (λ (m : Cells). slice_index m.words c.args.word) c.self.view_is))
