-- Worked lists: what the definitions give, computed, beside what was meant. Each is the contract of a function of
-- worked_lists.rt. Two members with a window of 4.
use Rattle.std.specs.Prelude.{◌≡◌, ℕ, true, false, IsTrue, List, [], ◌∷◌, ◌++◌, map, codes, Some, None}
use Rattle.op_base.specs.declared.name.Kind.TheVariants as kinds
use Rattle.op_base.specs.declared.name.ObjectId.{ObjectId}
use Rattle.op_base.specs.declared.message.Message.{Message}
use Rattle.op_base.specs.declared.operation.Act.TheVariants.{Ins, Del, Clear}
use Rattle.op_base.specs.declared.outcome.Answer.TheVariants.{Values}
use Rattle.op_base.specs.declared.tag.ElementId.{ElementId}
use Rattle.op_base.specs.Message.{id_of}
use Rattle.causal_model.specs.Chapter.{is_chapter}
use Rattle.causal_model.specs.Log.{log_of}
use Rattle.causal_model.specs.Elements.{list_ids}
use Rattle.causal_model.specs.History.{History, of_one_epoch, events}
use Rattle.causal_model.specs.KeptElements.{kept_elements, tombs_of}
use Rattle.causal_model.specs.Query.{answer}
use Rattle.causal_model.specs.Settled.{settled_items}
use Rattle.causal_model.specs.Worked.{object, does_to, noop, id, yes}

abbrev pub list_d : ObjectId
list_d = object kinds.List (codes "d")

-- the id of an element of epoch 0
abbrev pub el : ℕ → ℕ → ElementId
el origin seq = record { epoch = 0; origin = origin; seq = seq }

-- what the two members send
abbrev pub a : Message
a = does_to 0 (1 ∷ 0 ∷ []) list_d (Ins (codes "a") None) yes

abbrev pub b : Message
b = does_to 0 (2 ∷ 0 ∷ []) list_d (Ins (codes "b") (Some (el 0 1))) yes

abbrev pub c : Message
c = does_to 1 (1 ∷ 1 ∷ []) list_d (Ins (codes "c") (Some (el 0 1))) yes

abbrev pub del_a : Message
del_a = does_to 0 (3 ∷ 1 ∷ []) list_d (Del (el 0 1)) yes

abbrev pub e : Message
e = does_to 1 (2 ∷ 2 ∷ []) list_d (Ins (codes "e") (Some (el 0 1))) yes

abbrev pub f : Message
f = does_to 0 (4 ∷ 2 ∷ []) list_d (Ins (codes "f") (Some (el 0 1))) yes

abbrev pub clear : Message
clear = does_to 0 (5 ∷ 2 ∷ []) list_d Clear yes

-- what they deliver
abbrev pub first_at_0 : List Message
first_at_0 = a ∷ b ∷ c ∷ []

abbrev pub first_at_1 : List Message
first_at_1 = a ∷ c ∷ b ∷ []

abbrev pub second_at_0 : List Message
second_at_0 = first_at_0 ++ del_a ∷ e ∷ f ∷ clear ∷ []

abbrev pub at : ℕ → List Message → History
at me messages = of_one_epoch 2 me messages

-- whatever order they come in, what was put behind a later comes before what was put there earlier
pub record PutBehindOne : Type 0 where
  pub chapter_0 : IsTrue (is_chapter 2 4 0 first_at_0)
  pub chapter_1 : IsTrue (is_chapter 2 4 1 first_at_1)
  pub at_0 : answer list_d (events (at 0 first_at_0)) ≡ Values (codes "a" ∷ codes "c" ∷ codes "b" ∷ [])
  pub at_1 : answer list_d (events (at 1 first_at_1)) ≡ Values (codes "a" ∷ codes "c" ∷ codes "b" ∷ [])
  pub ids_0 : list_ids list_d (events (at 0 first_at_0)) ≡ el 0 1 ∷ el 1 1 ∷ el 0 2 ∷ []

-- a is deleted while e is put behind it; what is put behind it by one who has seen that is no element; and all are cleared
pub record DeletedAndCleared : Type 0 where
  pub chapter : IsTrue (is_chapter 2 4 0 second_at_0)
  pub deleted : answer list_d (events (at 0 (first_at_0 ++ del_a ∷ []))) ≡ Values (codes "c" ∷ codes "b" ∷ [])
  pub tombs_deleted : tombs_of (at 0 (first_at_0 ++ del_a ∷ [])) list_d ≡ 1
  pub put_behind_it : answer list_d (events (at 0 (first_at_0 ++ del_a ∷ e ∷ []))) ≡ Values (codes "e" ∷ codes "c" ∷ codes "b" ∷ [])
  pub put_behind_nothing : answer list_d (events (at 0 (first_at_0 ++ del_a ∷ e ∷ f ∷ []))) ≡ Values (codes "e" ∷ codes "c" ∷ codes "b" ∷ [])
  pub cleared : answer list_d (events (at 0 second_at_0)) ≡ Values []
  pub tombs_cleared : tombs_of (at 0 second_at_0) list_d ≡ 4
  pub log : map id_of (log_of (at 0 second_at_0)) ≡ id 0 3 ∷ id 0 5 ∷ []
  pub no_items : settled_items (at 0 second_at_0) ≡ []

-- once member 1 has sent a no-op that has seen all, all is gone
abbrev pub settled_at_0 : List Message
settled_at_0 = second_at_0 ++ noop 1 (5 ∷ 3 ∷ []) ∷ []

pub record AllSettled : Type 0 where
  pub chapter : IsTrue (is_chapter 2 4 0 settled_at_0)
  pub kept : kept_elements (at 0 settled_at_0) list_d ≡ []
  pub tombs : tombs_of (at 0 settled_at_0) list_d ≡ 0
  pub log : log_of (at 0 settled_at_0) ≡ []

-- where the delete alone is stable, a stays for what stands behind it, with its mark
abbrev pub deleted_at_0 : List Message
deleted_at_0 = first_at_0 ++ del_a ∷ e ∷ noop 1 (3 ∷ 3 ∷ []) ∷ []

pub record MarkedWhileNeeded : Type 0 where
  pub chapter : IsTrue (is_chapter 2 4 0 deleted_at_0)
  pub log : log_of (at 0 deleted_at_0) ≡ []
  pub kept : map (λ k. k.value) (kept_elements (at 0 deleted_at_0) list_d) ≡ codes "a" ∷ codes "e" ∷ codes "c" ∷ codes "b" ∷ []
  pub gone : map (λ k. k.gone) (kept_elements (at 0 deleted_at_0) list_d) ≡ true ∷ false ∷ false ∷ false ∷ []
  pub tombs : tombs_of (at 0 deleted_at_0) list_d ≡ 1
  pub shown : answer list_d (events (at 0 deleted_at_0)) ≡ Values (codes "e" ∷ codes "c" ∷ codes "b" ∷ [])

-- A deeper tree: 1 at the head, 2 behind 1, 3 behind 2, then 9 at the head, and 8 behind 1: of 2 and 8, which were put behind
-- one, 8 is the later and stands first; 9 is the last that was put at the head, and stands before all. One member.
abbrev pub one : Message
one = does_to 0 (1 ∷ []) list_d (Ins (codes "1") None) yes

abbrev pub two : Message
two = does_to 0 (2 ∷ []) list_d (Ins (codes "2") (Some (el 0 1))) yes

abbrev pub three : Message
three = does_to 0 (3 ∷ []) list_d (Ins (codes "3") (Some (el 0 2))) yes

abbrev pub nine : Message
nine = does_to 0 (4 ∷ []) list_d (Ins (codes "9") None) yes

abbrev pub eight : Message
eight = does_to 0 (5 ∷ []) list_d (Ins (codes "8") (Some (el 0 1))) yes

abbrev pub unseen : Message
unseen = does_to 0 (6 ∷ []) list_d (Ins (codes "7") (Some (el 0 9))) yes

abbrev pub itself : Message
itself = does_to 0 (6 ∷ []) list_d (Ins (codes "7") (Some (el 0 6))) yes

abbrev pub alone : List Message → History
alone messages = of_one_epoch 1 0 messages

pub record Tree : Type 0 where
  pub chapter : IsTrue (is_chapter 1 4 0 (one ∷ two ∷ three ∷ nine ∷ eight ∷ []))
  pub order : answer list_d (events (alone (one ∷ two ∷ three ∷ nine ∷ eight ∷ []))) ≡ Values (codes "9" ∷ codes "1" ∷ codes "8" ∷ codes "2" ∷ codes "3" ∷ [])
  -- what was put behind an element that isn't there, or behind itself, is none
  pub no_place : answer list_d (events (alone (one ∷ two ∷ three ∷ nine ∷ eight ∷ unseen ∷ []))) ≡ Values (codes "9" ∷ codes "1" ∷ codes "8" ∷ codes "2" ∷ codes "3" ∷ [])
  pub own_place : answer list_d (events (alone (one ∷ two ∷ three ∷ nine ∷ eight ∷ itself ∷ []))) ≡ Values (codes "9" ∷ codes "1" ∷ codes "8" ∷ codes "2" ∷ codes "3" ∷ [])
  -- in a store of one member all is stable at once: 2 goes with its mark only with 3
  pub marked : map (λ k. k.gone) (kept_elements (alone (one ∷ two ∷ three ∷ does_to 0 (4 ∷ []) list_d (Del (el 0 2)) yes ∷ [])) list_d) ≡ false ∷ true ∷ false ∷ []
  pub both_go : map (λ k. k.value) (kept_elements (alone (one ∷ two ∷ three ∷ does_to 0 (4 ∷ []) list_d (Del (el 0 2)) yes ∷ does_to 0 (5 ∷ []) list_d (Del (el 0 3)) yes ∷ [])) list_d)
      ≡ codes "1" ∷ []

-- In the next epoch: what was put in before stands, is deleted by its id of that epoch, and what is put behind it now is higher.
abbrev pub next_epoch : List Message → History
next_epoch messages = record { past = record { n = 1; me = 0; messages = one ∷ two ∷ [] } ∷ []; present = record { n = 2; me = 1; messages = messages } }

abbrev pub in_1 : ℕ → ℕ → ElementId
in_1 origin seq = record { epoch = 1; origin = origin; seq = seq }

pub record ListsOverEpochs : Type 0 where
  pub before : answer list_d (events (next_epoch [])) ≡ Values (codes "1" ∷ codes "2" ∷ [])
  pub put : answer list_d (events (next_epoch (does_to 0 (1 ∷ 0 ∷ []) list_d (Ins (codes "z") (Some (el 0 1))) yes ∷ []))) ≡ Values (codes "1" ∷ codes "z" ∷ codes "2" ∷ [])
  pub deleted : answer list_d (events (next_epoch (does_to 0 (1 ∷ 0 ∷ []) list_d (Del (el 0 2)) yes ∷ []))) ≡ Values (codes "1" ∷ [])
  pub other_epoch : answer list_d (events (next_epoch (does_to 0 (1 ∷ 0 ∷ []) list_d (Del (in_1 0 2)) yes ∷ []))) ≡ Values (codes "1" ∷ codes "2" ∷ [])
