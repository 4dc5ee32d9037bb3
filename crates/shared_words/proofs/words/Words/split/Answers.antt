use Rattle.shared_words.proofs.TableSteps.{splits}
use Rattle.shared_words.proofs.words.Words.split.Goals as goal

pub split_seat-seat-requires : goal.split_seat-seat-requires
split_seat-seat-requires g c = (c.requires.own.same, c.args.self.now.clocked, splits _ _ c.requires.room)
