use Rattle.reader.proofs.Letters.{word-starts}
use Rattle.reader.proofs.word.starts.Goals as goal

pub bounds-word-0 : goal.bounds-word-0
bounds-word-0 c = rw c.word.ensures (word-starts _ c.requires)
