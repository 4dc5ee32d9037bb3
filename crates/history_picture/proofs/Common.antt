-- The names that more than one proof cites, passed on from one place. Declares nothing.
pub use Rattle.history_picture.specs.Columns.{has_thread, one_thread, threads_below}
unfoldable pub use Rattle.history_picture.specs.Picture.{bar_back, bar_front, cell_text, flaw_text, foot_text, judgement_text, machine_text, mark_text, page_text, told_text}
pub use Rattle.history_picture.specs.Picture.{bar_text, call_at, looks_text, note_text, seat_at, seat_in, seats_text, width_of}
pub use Rattle.history_picture.specs.Seats.{comes_before, seat_of, seats_from}
pub use Rattle.history_picture.specs.declared.seats.Seat.{Seat}
pub use Rattle.picture_parts.proofs.Texts.{more_texts, puts_cut, puts_then, texts_stop, three, three_cut_first, three_cut_second, two_cut_first}
pub use Rattle.picture_parts.specs.Looks.{colours_text, front_text, style_text}
pub use Rattle.tx_attempts.specs.declared.attempt.Attempt.{Attempt}
pub use Rattle.tx_history.proofs.TextPieces.{put_as}
pub use Rattle.std.specs.List.Sorted.{IsPermutation, IsSortedBy}
