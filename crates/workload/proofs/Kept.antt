-- What a map keeps of words.
use Rattle.std.proofs.Common.{◌≡◌, ℕ, false, List}
use Rattle.std.specs.Borrow.{Bor}
use Rattle.std.specs.Map.{lookup}
use Rattle.op_base.specs.Name.{same_text}

-- the entries at other words than this one stay
abbrev pub OthersStay : Bor (List ℕ) → (old new : List (Bor (List ℕ) × ℕ)) → Type 0
OthersStay word old new = (q : Bor (List ℕ)) → same_text word.now q.now ≡ false → lookup (λ key. same_text q.now key.now) new ≡ lookup (λ key. same_text q.now key.now) old

pub others_stay : (word : Bor (List ℕ)) (other : List ℕ) (old new : List (Bor (List ℕ) × ℕ)) → OthersStay word old new → same_text word.now other ≡ false
    → lookup (λ key. same_text other key.now) new ≡ lookup (λ key. same_text other key.now) old
others_stay word other old new stay apart = stay (record { ref_ptr = (0, 0); now = other }) apart
