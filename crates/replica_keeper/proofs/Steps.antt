-- What one record more makes of what was read.
use Rattle.std.proofs.Common.{◌≡◌, ℕ, zero, suc, ◌+◌, ◌-◌, ◌<◌, ◌≤◌, false, List, [], ◌∷◌, ◌++◌, length, take, drop, get_or, Some, None, Result, Ok, Err, lit<, sym, ap, subst, ◌∙◌, arith, append-nil, append_assoc, length-append, length-drop}
use Rattle.std.specs.Int.{w32, to_be_bytes}
use Rattle.std.proofs.lemmas.Nat.{be_bytes_4}
use Rattle.std.proofs.lemmas.List.{length-take-le, take_rest}
use Rattle.std.proofs.Math.Seq.{take-append_seam, take-add}
use Rattle.causal_model.specs.Journal.{replay}
use Rattle.replica_node.specs.Nodes.{state_by}
use Rattle.world_model.specs.Records.{content_of, record_with, record_of, Front, whole, front_of, group_told, Reading, read_none, read_fault, read_front, read_told, reading_within, kept_reading, kept_fault, fault_by}
use Rattle.replica_keeper.specs.Keeping.{groups_of}
use Rattle.replica_keeper.specs.Open.{NotedNode, settings_by, IsOpen}
use Rattle.replica_keeper.specs.Replaying.{told_to, HasReplayed}
use Rattle.replica_keeper.specs.Open.{IsSame}
use Rattle.replica_keeper.specs.Reads.{IsHeadOf, HasRead, read_at}
use Rattle.replica_keeper.specs.declared.reading.Unread.{Unread}
use Rattle.replica_keeper.specs.declared.reading.Unread.TheVariants.{NoMemory, Damaged}
use Rattle.replica_keeper.proofs.Fronts.{IsWhole, Says, says}
use Rattle.replica_keeper.proofs.Readings.{enough, told_content, joined, IsTold}
use Rattle.replica_keeper.proofs.Kept.{rest_read}
use Rattle.replica_keeper.proofs.Opened.{opened_synced}

-- ---- one step

pub read_front_at : (node : NotedNode) (bytes : List ℕ) (most : ℕ) (f : Front) → front_of bytes ≡ f
    → read_at node bytes most ≡ read_front node.inner.n node.inner.w node.inner.limit (state_by node.first node.journal.notes) (λ next rest. reading_within most node.inner.n node.inner.w node.inner.limit next rest) f
read_front_at node bytes most f e = ap (read_front node.inner.n node.inner.w node.inner.limit (state_by node.first node.journal.notes) (λ next rest. reading_within most node.inner.n node.inner.w node.inner.limit next rest)) e

pub untold_is_fault : (node : NotedNode) (bytes content rest : List ℕ) (most : ℕ) → front_of bytes ≡ whole content rest → told_to node content ≡ None → read_at node bytes most ≡ read_fault
untold_is_fault node bytes content rest most e none =
    read_front_at node bytes most (whole content rest) e
    ∙ ap (read_told (state_by node.first node.journal.notes) (length content + 4) (λ next. reading_within most node.inner.n node.inner.w node.inner.limit next rest)) none

small_front : (k : ℕ) (bytes : List ℕ) → ((i : ℕ) → get_or bytes i 0 < 256) → (i : ℕ) → get_or (take k bytes) i 0 < 256
small_front zero bytes small i = lit< tt
small_front (suc k) [] small i = lit< tt
small_front (suc k) (b ∷ bytes) small zero = small 0
small_front (suc k) (b ∷ bytes) small (suc i) = small_front k bytes (λ j. small (suc j)) i

front_record : (bytes content rest : List ℕ) → IsWhole bytes content rest → ((i : ℕ) → get_or bytes i 0 < 256) → take (4 + length content) bytes ≡ record_with content
front_record bytes content rest w small =
    let four : take 4 bytes ≡ w.field = ap (take 4) w.is ∙ ap (λ k. take k (w.field ++ (content ++ rest))) (sym w.four) ∙ take-append_seam w.field (content ++ rest) in
    let field : to_be_bytes w32 (length content) ≡ w.field = be_bytes_4 w.field (length content) w.four (λ i. subst (λ f. get_or f i 0 < 256) four (small_front 4 bytes small i)) (sym w.tells) in
    let size : 4 + length content ≡ length (w.field ++ content) = omega (arith, w.four, length-append w.field content) in
    ap (λ b. take (4 + length content) b) (w.is ∙ sym (append_assoc w.field content rest))
    ∙ ap (λ k. take k ((w.field ++ content) ++ rest)) size ∙ take-append_seam (w.field ++ content) rest ∙ ap (λ f. f ++ content) (sym field)

pub has_read : (node after : NotedNode) (bytes content : List ℕ) (len : ℕ) → IsHeadOf len bytes → content ≡ take len (drop 4 bytes) → ((i : ℕ) → get_or bytes i 0 < 256) → HasReplayed node after content → HasRead node after bytes (4 + len)
has_read node after bytes content len head is small replayed =
    let w : IsWhole bytes (take len (drop 4 bytes)) (drop len (drop 4 bytes)) = subst (Says bytes) head.front (says bytes) in
    let w' : IsWhole bytes content (drop len (drop 4 bytes)) = subst (λ c. IsWhole bytes c (drop len (drop 4 bytes))) (sym is) w in
    let size : length content ≡ len = ap length is ∙ length-take-le len (drop 4 bytes) (omega (arith, head.within, length-drop 4 bytes)) in
    let same : content_of node.inner.n replayed.group ≡ content = told_content node.inner.n node.inner.w node.inner.limit (state_by node.first node.journal.notes) content replayed.group replayed.told in
    record {
      group = replayed.group;
      told = subst (λ c. group_told node.inner.n node.inner.w node.inner.limit (state_by node.first node.journal.notes) c ≡ Some replayed.group) (sym same) replayed.told;
      some = subst (λ c. 1 ≤ length c) (sym same) w'.some;
      few = subst (λ c. length c ≤ 8192) (sym same) w'.few;
      one = replayed.one;
      noted = replayed.noted;
      within = head.within;
      is = ap (λ k. take (4 + k) bytes) (sym size) ∙ front_record bytes content (drop len (drop 4 bytes)) w' small ∙ ap record_with (sym same);
    }

-- ---- all steps

-- what was read is open, with a record more
pub opened_next : (node after : NotedNode) (bytes : List ℕ) (at len : ℕ) → at ≤ length bytes → IsOpen node (take at bytes) at → IsSame node after → HasRead node after (drop at bytes) len → IsOpen after (take (at + len) bytes) (at + len)
opened_next node after bytes at len within opened same has =
    let told : IsTold node.inner.n node.inner.w node.inner.limit (state_by node.first node.journal.notes) has.group = record { told = has.told; some = has.some; few = has.few } in
    let told' : IsTold node.inner.n node.inner.w node.inner.limit (replay node.inner.n node.inner.me node.journal.notes) has.group = subst (λ f. IsTold node.inner.n node.inner.w node.inner.limit (state_by f node.journal.notes) has.group) opened.first told in
    let held : take (at + len) bytes ≡ take at bytes ++ record_of node.inner.n has.group = take-add at len bytes ∙ ap (λ r. take at bytes ++ r) has.is in
    opened_synced node after has.group (take at bytes) (take (at + len) bytes) at (at + len) opened told' has.one same.settings same.first has.noted held
    (sym (length-take-le (at + len) bytes (omega (arith, within, has.within, length-drop at bytes))))

module _ (node : NotedNode) (bytes : List ℕ) (at : ℕ) (within : at ≤ length bytes) (opened : IsOpen node (take at bytes) at) where
  there : state_by node.first node.journal.notes ≡ replay node.inner.n node.inner.me node.journal.notes
  there = ap (λ f. state_by f node.journal.notes) opened.first

  all_read : (reading : Reading) → ((most : ℕ) → read_at node (drop at bytes) most ≡ reading) → kept_reading (settings_by node) bytes ≡ joined node.inner.n node.inner.w node.inner.limit (record { groups = groups_of node.journal.notes; len = length (take at bytes); faulty = false }) reading
  all_read reading is =
      let n = node.inner.n in let w = node.inner.w in let limit = node.inner.limit in
      let s = replay n node.inner.me node.journal.notes in
      let more : reading_within (length bytes) n w limit s (drop at bytes) ≡ reading_within (suc (length bytes)) n w limit s (drop at bytes) =
      enough n w limit (length bytes) (suc (length bytes)) s (drop at bytes) (omega (arith, length-drop at bytes)) (omega (arith, length-drop at bytes)) in
      rest_read (settings_by node) node.journal.notes bytes at at opened.keeps
      ∙ ap (joined n w limit (record { groups = groups_of node.journal.notes; len = length (take at bytes); faulty = false }))
      (more ∙ ap (λ s. reading_within (suc (length bytes)) n w limit s (drop at bytes)) (sym there) ∙ is (length bytes))

  -- nothing is behind: all was read
  pub read_to_end : ((most : ℕ) → read_at node (drop at bytes) most ≡ read_none) → kept_reading (settings_by node) bytes ≡ record { groups = groups_of node.journal.notes; len = at; faulty = false }
  read_to_end is =
      all_read read_none is
      ∙ ap (λ groups. record { groups = groups; len = length (take at bytes) + 0; faulty = false }) (append-nil (groups_of node.journal.notes))
      ∙ ap (λ len. record { groups = groups_of node.journal.notes; len = len; faulty = false }) (omega (arith, length-take-le at bytes within))

  -- a fault is behind: it is the first
  pub read_to_fault : ((most : ℕ) → read_at node (drop at bytes) most ≡ read_fault) → kept_fault (settings_by node) bytes ≡ Some at
  read_to_fault is = ap fault_by (all_read read_fault is) ∙ ap Some (omega (arith, length-take-le at bytes within))

-- ---- what steps keep

pub same_then : (a b c : NotedNode) → IsSame a b → IsSame b c → IsSame a c
same_then a b c one two = record {
  settings = record { me = two.settings.me ∙ one.settings.me; n = two.settings.n ∙ one.settings.n; w = two.settings.w ∙ one.settings.w; limit = two.settings.limit ∙ one.settings.limit; epoch = two.settings.epoch ∙ one.settings.epoch };
  first = two.first ∙ one.first;
}

-- what is said of the part behind so many bytes is said of what is left when they are dropped
pub of_rest : (bytes : List ℕ) (at : ℕ) (P : List ℕ → Type 0) → P (take (length bytes - at) (drop at bytes)) → P (drop at bytes)
of_rest bytes at P so = subst P (take_rest bytes at) so

abbrev place : ℕ → Result ℕ Unread → ℕ
place at (Ok len) = at
place at (Err NoMemory) = at
place at (Err (Damaged there)) = there

pub same_place : (a b : ℕ) → (let left : Result ℕ Unread = Err (Damaged a) in left ≡ Err (Damaged b)) → a ≡ b
same_place a b e = ap (place a) e
