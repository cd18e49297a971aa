-- Frames that stand one behind the other in one list of bytes: how many there are, where each stands, and one more.
use Rattle.std.proofs.Common.{◌≡◌, ℕ, zero, suc, ◌+◌, ◌<◌, ◌≤◌, List, [], ◌∷◌, ◌++◌, length, drop, slice_index_or, refl, sym, ap, ap₂, ◌∙◌, arith}
use Rattle.std.specs.List.{between}
use Rattle.std.proofs.Math.Seq.{drop-append_seam}
use Rattle.std.proofs.lemmas.List.{take_all, take-append-le, length-append}
use Rattle.std.proofs.lemmas.Slice.{between_is}
use Rattle.world.specs.FrameRows.{frames_from, RisesTo, begin_of}

pub as_many : (at : ℕ) (ends bytes : List ℕ) → length (frames_from at ends bytes) ≡ length ends
as_many at [] bytes = refl
as_many at (end ∷ ends) bytes = ap suc (as_many end ends bytes)

-- ---- where a frame stands

pub begins_behind : (at k i : ℕ) (ends : List ℕ) → i ≡ suc k → begin_of at ends i ≡ slice_index_or ends k 0
begins_behind at k i ends is = ap (begin_of at ends) is

pub stands : (at i e : ℕ) (ends bytes d : List ℕ) → i < length ends
    → slice_index_or (frames_from at ends bytes) i d ≡ between (begin_of at ends i) (slice_index_or ends i e) bytes
stands at zero e (end ∷ ends) bytes d low = refl
stands at (suc zero) e (end ∷ ends) bytes d low = stands end zero e ends bytes d (omega (arith, low))
stands at (suc (suc k)) e (end ∷ ends) bytes d low = stands end (suc k) e ends bytes d (omega (arith, low))
stands at zero e [] bytes d low = elim low [ ]
stands at (suc zero) e [] bytes d low = elim low [ ]
stands at (suc (suc k)) e [] bytes d low = elim low [ ]

begins_within : (len at : ℕ) (ends : List ℕ) → RisesTo len at ends → at ≤ len
begins_within len at [] is = omega (arith, is)
begins_within len at (end ∷ ends) rise = omega (arith, rise.0, begins_within len end ends rise.1)

pub ends_within : (len at i e : ℕ) (ends : List ℕ) → RisesTo len at ends → i < length ends → slice_index_or ends i e ≤ len
ends_within len at zero e (end ∷ ends) rise low = begins_within len end ends rise.1
ends_within len at (suc i) e (end ∷ ends) rise low = ends_within len end i e ends rise.1 (omega (arith, low))
ends_within len at zero e [] rise low = elim low [ ]
ends_within len at (suc i) e [] rise low = elim low [ ]

pub rises : (len at i e : ℕ) (ends : List ℕ) → RisesTo len at ends → i < length ends → begin_of at ends i ≤ slice_index_or ends i e
rises len at zero e (end ∷ ends) rise low = rise.0
rises len at (suc zero) e (end ∷ ends) rise low = rises len end zero e ends rise.1 (omega (arith, low))
rises len at (suc (suc k)) e (end ∷ ends) rise low = rises len end (suc k) e ends rise.1 (omega (arith, low))
rises len at zero e [] rise low = elim low [ ]
rises len at (suc zero) e [] rise low = elim low [ ]
rises len at (suc (suc k)) e [] rise low = elim low [ ]

-- ---- one more

last_stands : (at : ℕ) (bytes frame : List ℕ) → at ≡ length bytes → between at (length bytes + length frame) (bytes ++ frame) ≡ frame
last_stands at bytes frame is =
    between_is (bytes ++ frame) at (length bytes + length frame)
    ∙ ap (drop at) (take_all (length bytes + length frame) (bytes ++ frame) (omega (arith, length-append bytes frame)))
    ∙ ap (λ (n : ℕ). drop n (bytes ++ frame)) is
    ∙ drop-append_seam bytes frame

stays : (at end : ℕ) (bytes frame : List ℕ) → end ≤ length bytes → between at end (bytes ++ frame) ≡ between at end bytes
stays at end bytes frame within = between_is (bytes ++ frame) at end ∙ ap (drop at) (take-append-le end bytes frame within) ∙ sym (between_is bytes at end)

pub one_more : (at : ℕ) (ends bytes frame : List ℕ) → RisesTo (length bytes) at ends
    → frames_from at (ends ++ (length bytes + length frame) ∷ []) (bytes ++ frame) ≡ frames_from at ends bytes ++ frame ∷ []
one_more at [] bytes frame is = ap (λ (last : List ℕ). last ∷ []) (last_stands at bytes frame is)
one_more at (end ∷ ends) bytes frame rise =
    ap₂ (λ (first : List ℕ) (rest : List (List ℕ)). first ∷ rest) (stays at end bytes frame (begins_within (length bytes) end ends rise.1)) (one_more end ends bytes frame rise.1)

pub rises_with_one_more : (len more at : ℕ) (ends : List ℕ) → RisesTo len at ends → RisesTo (len + more) at (ends ++ (len + more) ∷ [])
rises_with_one_more len more at [] is = (omega (arith, is), refl)
rises_with_one_more len more at (end ∷ ends) rise = (rise.0, rises_with_one_more len more end ends rise.1)
