-- In which order do a seed and a stream put a list? It is the shuffle of `rand` over the words of
-- `rand_chacha`.
use Rattle.std.specs.Prelude.{ℕ, List}
use Rattle.rand_core.specs.Stream.{Stream}
use Rattle.rand_core.specs.Steps.{stream_of, steps_u32}
use Rattle.rand_chacha.specs.ChaCha.{next_word, key_of}
use Rattle.rand.specs.Shuffle.{shuffled}

-- the words of ChaCha20, which has ten double rounds, for the key of a seed and a stream, from
-- place 0
abbrev pub words_of : List ℕ → ℕ → Stream
words_of seed stream =
    stream_of (steps_u32 (next_word 10))
    (record { key = key_of seed; stream = stream; word_pos = 0 })

-- the list as these words shuffle it
abbrev pub shuffle_of : {X : Type 0} → List X → List ℕ → ℕ → List X
shuffle_of cards seed stream = (shuffled cards 0 (words_of seed stream)).0
