-- When a matrix is that of messages, and what its calls keep of that.
use Rattle.std.specs.Prelude.{◌≡◌, ℕ, IsTrue, List, [], ◌∷◌, ◌++◌, map}
use Rattle.op_base.specs.declared.message.Message.{Message}
use Rattle.causal_model.specs.Counts.{members, counts, next_tag, is_deliverable}
use Rattle.causal_model.specs.Stability.{known_vector, stable_vector}
use Rattle.stability_matrix.specs.Rows.{Known, stable_of}

-- a matrix is that of messages which member me of n delivered: its rows are the known vectors
pub record IsMatrixOf (n me : ℕ) (messages : List Message) (matrix : Known) : Type 0 where
  pub of_me : matrix.me ≡ me
  pub known : matrix.rows ≡ map (known_vector n me messages) (members n)

-- a message of an origin with a timestamp that comes next after messages
pub record ComesNext (n origin : ℕ) (tag : List ℕ) (messages : List Message) (m : Message) : Type 0 where
  pub of_origin : m.origin ≡ origin
  pub with_tag : m.tag ≡ tag
  pub deliverable : IsTrue (is_deliverable n (counts n messages) m)

-- where the matrix was that of messages, it is that of those with the next message of the origin
abbrev pub KeepsKnown : ℕ → List ℕ → Known → Known → Type 0
KeepsKnown origin tag old new = (n me : ℕ) (messages : List Message) (m : Message) → IsMatrixOf n me messages old
    → ComesNext n origin tag messages m → IsMatrixOf n me (messages ++ m ∷ []) new

-- where the matrix was that of messages, it is that of those with the member's next own message
abbrev pub KeepsKnownOfOwn : List ℕ → Known → Known → Type 0
KeepsKnownOfOwn tag old new = (n me : ℕ) (messages : List Message) (m : Message) → IsMatrixOf n me messages old
    → m.origin ≡ me → m.tag ≡ tag → m.tag ≡ next_tag n me messages → IsMatrixOf n me (messages ++ m ∷ []) new

-- where the matrix is that of messages, a timestamp is their stable vector with the next message of the origin
abbrev pub StableAfter : ℕ → List ℕ → Known → List ℕ → Type 0
StableAfter origin tag matrix stable = (n me : ℕ) (messages : List Message) (m : Message) → IsMatrixOf n me messages matrix
    → ComesNext n origin tag messages m → stable ≡ stable_vector n me (messages ++ m ∷ [])

-- where the matrix was that of messages, its stable counts are theirs still
abbrev pub KeepsStable : Known → Known → Type 0
KeepsStable old new = (n me : ℕ) (messages : List Message) → IsMatrixOf n me messages old → stable_of new.rows ≡ stable_vector n me messages
