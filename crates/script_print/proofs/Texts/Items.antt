-- The lines of a schedule say its items.
use Rattle.std.proofs.Common.{◌≡◌, ℕ, ◌+◌, ◌<◌, ◌≤◌, false, List, [], ◌∷◌, ◌++◌, length, map, Ok, refl, sym, ap, ◌∙◌, arith, append_assoc, length-append}
use Rattle.script_print.proofs.Common.{AllByRecursion, Item, MAX_ACTORS, MAX_ITEMS, State, append-nil, has_begun, item_fields, le-ltb, obeyed, said, word_of}
use Rattle.script_print.{proofs.Printable.IsItem, proofs.Texts.Lines.all_said, proofs.Texts.Lines.said_next, proofs.Texts.ItemTexts.schedule_again}

abbrev pub with_items : State → List Item → List ℕ → State
with_items s items lines = record s { schedule = record { items = items; lines = lines } }

item_said : (s : State) (n threads : ℕ) (i : Item) → has_begun s ≡ false → threads ≤ MAX_ACTORS → length s.schedule.items < MAX_ITEMS → IsItem threads i
    → said s n (item_fields i) ≡ Ok (with_items s (s.schedule.items ++ i ∷ []) (s.schedule.lines ++ n ∷ []))
unfolding word_of obeyed
item_said s n threads i early few room h =
    rw (early, schedule_again threads i few h, le-ltb MAX_ITEMS (length s.schedule.items + 1) (omega arith)) refl

pub items_said : (items : List Item) (s : State) (n threads : ℕ) → has_begun s ≡ false → threads ≤ MAX_ACTORS → length s.schedule.items + length items ≤ MAX_ITEMS → AllByRecursion (IsItem threads) items
    → (lines : List ℕ) × (all_said s n (map item_fields items) ≡ Ok (with_items s (s.schedule.items ++ items) lines))
items_said [] s n threads early few room h = (s.schedule.lines, ap (λ (l : List Item). Ok (with_items s l s.schedule.lines)) (sym (append-nil s.schedule.items)))
items_said (i ∷ items) s n threads early few room h =
    let t = with_items s (s.schedule.items ++ i ∷ []) (s.schedule.lines ++ n ∷ []) in
    let rest = items_said items t (n + 1) threads early few (omega (arith, length-append s.schedule.items (i ∷ []))) h.1 in (
      rest.0,
      said_next (item_fields i) (map item_fields items) s t n (item_said s n threads i early few (omega arith) h.0) ∙ rest.1
          ∙ ap (λ (l : List Item). Ok (with_items s l rest.0)) (append_assoc s.schedule.items (i ∷ []) items),
    )
