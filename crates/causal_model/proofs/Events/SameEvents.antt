-- Lists of the same events, in any two orders: they answer every object alike.
use Rattle.std.proofs.Common.{◌≡◌, ◌↔◌, ℕ, Bool, true, not, ◌&&◌, ◌||◌, ◌==◌, IsTrue, AllPairs, Contains, List, [], ◌∷◌, length, nat_abs, suc, arith, ◌+◌, refl, sym, ap, ◌∙◌}
use Rattle.std.specs.Prelude.{ℤ, pos, ◌+ℤ◌, Some}
use Rattle.std.specs.List.{filter, list_any, list_all}
use Rattle.std.proofs.lemmas.Bool.{and_from, eq-eqb, eqb-true}
use Rattle.std.proofs.lemmas.List.Elements.{filter_agree}
use Rattle.std.proofs.lemmas.List.Kept.{AllPairs-filter}
use Rattle.op_base.specs.Message.{number}
use Rattle.op_base.specs.declared.name.Kind.{Kind}
use Rattle.op_base.specs.declared.name.Kind.TheVariants.{AwSet, RwSet, EwFlag, DwFlag, MvReg, Counter, RCounter}
use Rattle.op_base.specs.declared.name.Kind.TheVariants as kinds
use Rattle.op_base.specs.declared.name.ObjectId.{ObjectId}
use Rattle.op_base.specs.declared.operation.Act.{Act}
use Rattle.op_base.specs.declared.outcome.Answer.TheVariants.{Values, Flag, Sum}
use Rattle.causal_model.specs.Acts.{is_clear, share_of}
use Rattle.causal_model.specs.History.{History, Event, events, is_before, is_history, SameEvents, is_act_on}
use Rattle.causal_model.specs.Order.{is_followed}
use Rattle.causal_model.specs.Parts.{has}
use Rattle.causal_model.specs.Query.{is_live, add_wins, remove_wins, counter_sum, rcounter_sum, values_that, answer_as, answer}
use Rattle.causal_model.proofs.Theory.Elements.{same_tests}
use Rattle.causal_model.proofs.Events.Events.{events_are_apart}
use Rattle.causal_model.proofs.Lists.Ranks.{Ranked, ranks_differ}
use Rattle.causal_model.proofs.Lists.SameLists.{one_id, same_list_values}
use Rattle.causal_model.proofs.Theory.Totals.{Unlike, Apart, sum_of, sum_of-cons, sum_of-map, same_sum}
use Rattle.causal_model.proofs.Theory.Members.{filter_within, list_any_members, list_all_members}
use Rattle.causal_model.proofs.Answers.Values.{values_rise, values_are_exact, only_named_of, one_list_of_texts}

-- ---- queries of the same events

module _ (es gs : List Event) (same : (e : Event) → (Contains es e ↔ Contains gs e)) where
  same_followed : (passes : Event → Bool) (e : Event) → is_followed is_before passes es e ≡ is_followed is_before passes gs e
  same_followed passes e = list_any_members (λ later. passes later && is_before e later) es gs same

  same_live : (object : ObjectId) (e : Event) → is_live object es e ≡ is_live object gs e
  same_live object e = ap not (same_followed (is_act_on object is_clear) e)

  same_add_wins : (object : ObjectId) (puts takes : Act → Bool) → add_wins object puts takes es ≡ add_wins object puts takes gs
  same_add_wins object puts takes =
      (λ i. list_any (λ e. is_act_on object puts e && not (same_followed (is_act_on object takes) e i)) es)
      ∙ list_any_members (λ e. is_act_on object puts e && not (is_followed is_before (is_act_on object takes) gs e)) es gs same

  same_remove_wins : (object : ObjectId) (puts takes : Act → Bool) → remove_wins object puts takes es ≡ remove_wins object puts takes gs
  same_remove_wins object puts takes =
      let live : Event → Bool = λ e. is_act_on object puts e && is_live object gs e in
      let outdone : Event → Bool = λ e. not (is_act_on object takes e && is_live object gs e) || is_followed is_before (is_act_on object puts) gs e in
      (λ i. list_any (λ e. is_act_on object puts e && same_live object e i) es
      && list_all (λ e. not (is_act_on object takes e && same_live object e i) || same_followed (is_act_on object puts) e i) es)
      ∙ (λ i. list_any_members live es gs same i && list_all_members outdone es gs same i)

  same_has : (kind : Kind) (object : ObjectId) (value : List ℕ) → has kind object es (Some value) ≡ has kind object gs (Some value)
  same_has AwSet object value = same_add_wins object _ _
  same_has RwSet object value = same_remove_wins object _ _
  same_has MvReg object value = same_add_wins object _ _
  same_has EwFlag object value = refl
  same_has DwFlag object value = refl
  same_has Counter object value = refl
  same_has RCounter object value = refl
  same_has kinds.List object value = refl

  same_values : (kind : Kind) (object : ObjectId) → values_that (λ value. has kind object es (Some value)) object es ≡ values_that (λ value. has kind object gs (Some value)) object gs
  same_values kind object =
      let here : List ℕ → Bool = λ value. has kind object es (Some value) in
      let there : List ℕ → Bool = λ value. has kind object gs (Some value) in
      let exact = values_are_exact here object es (only_named_of kind object es) in
      let exactly = values_are_exact there object gs (only_named_of kind object gs) in
      one_list_of_texts (values_that here object es) (values_that there object gs) (values_rise here object es) (values_rise there object gs) (λ value.
      (λ h. (exactly value).1 (sym (same_has kind object value) ∙ (exact value).0 h), λ h. (exact value).1 (same_has kind object value ∙ (exactly value).0 h)))

-- ---- sums of the same events

id_itself : (e : Event) → one_id e e ≡ true
id_itself e = and_from _ _ (eq-eqb e.epoch e.epoch refl) (and_from _ _ (eq-eqb e.message.origin e.message.origin refl) (eq-eqb (number e.message) (number e.message) refl))

eqb_back : (a b : ℕ) → (a == b) ≡ (b == a)
eqb_back a b = same_tests (a == b) (b == a) (λ t. eq-eqb b a (sym (eqb-true a b t))) (λ t. eq-eqb a b (sym (eqb-true b a t)))

id_back : (a b : Event) → one_id a b ≡ one_id b a
id_back a b = λ i. eqb_back a.epoch b.epoch i && (eqb_back a.message.origin b.message.origin i && eqb_back (number a.message) (number b.message) i)

pub counter_sum-sum_of : (object : ObjectId) (es : List Event) → counter_sum object es ≡ sum_of (λ e. share_of object e.message.op) es
counter_sum-sum_of object es = sum_of-map (λ e. e.message.op) (share_of object) es

module _ (object : ObjectId) where
  same_counter_sum : (es gs : List Event) → Apart one_id es → Apart one_id gs → ((e : Event) → (Contains es e ↔ Contains gs e)) → counter_sum object es ≡ counter_sum object gs
  same_counter_sum es gs apart far same =
      let share : Event → ℤ = λ e. share_of object e.message.op in
      counter_sum-sum_of object es ∙ same_sum one_id id_itself id_back share es gs apart far same ∙ sym (counter_sum-sum_of object gs)

  same_rcounter_sum : (es gs : List Event) → Apart one_id es → Apart one_id gs → ((e : Event) → (Contains es e ↔ Contains gs e)) → rcounter_sum object es ≡ rcounter_sum object gs
  same_rcounter_sum es gs apart far same =
      let live : Event → Bool = is_live object gs in
      ap (counter_sum object) (filter_agree (is_live object es) live (same_live es gs same object) es)
      ∙ same_counter_sum (filter live es) (filter live gs) (AllPairs-filter (Unlike one_id) live es apart) (AllPairs-filter (Unlike one_id) live gs far)
      (λ e. (filter_within live es gs (λ x. (same x).0) e, filter_within live gs es (λ x. (same x).1) e))

-- as many events
same_length : (es gs : List Event) → Apart one_id es → Apart one_id gs → ((e : Event) → (Contains es e ↔ Contains gs e)) → length es ≡ length gs
same_length es gs apart far same = ap nat_abs (sym (ones es) ∙ same_sum one_id id_itself id_back (λ e. pos 1) es gs apart far same ∙ ones gs) where
  one_more : (k : ℕ) → 1 + k ≡ suc k
  one_more k = omega arith

  ones : (xs : List Event) → sum_of (λ e. pos 1) xs ≡ pos (length xs)
  ones [] = refl
  ones (x ∷ xs) = sum_of-cons (λ e. pos 1) x xs ∙ ap (λ z. pos 1 +ℤ z) (ones xs) ∙ ap pos (one_more (length xs))

-- ---- answers

same_answer_as : (kind : Kind) (object : ObjectId) (es gs : List Event) → AllPairs Ranked es → AllPairs Ranked gs → Apart one_id es → Apart one_id gs → ((e : Event) → (Contains es e ↔ Contains gs e)) → answer_as kind object es ≡ answer_as kind object gs
same_answer_as AwSet object es gs ranked too apart far same = ap Values (same_values es gs same AwSet object)
same_answer_as RwSet object es gs ranked too apart far same = ap Values (same_values es gs same RwSet object)
same_answer_as MvReg object es gs ranked too apart far same = ap Values (same_values es gs same MvReg object)
same_answer_as EwFlag object es gs ranked too apart far same = ap Flag (same_add_wins es gs same object _ _)
same_answer_as DwFlag object es gs ranked too apart far same = ap Flag (same_remove_wins es gs same object _ _)
same_answer_as Counter object es gs ranked too apart far same = ap Sum (same_counter_sum object es gs apart far same)
same_answer_as kinds.List object es gs ranked too apart far same = ap Values (same_list_values object es gs same apart ranked too (same_length es gs apart far same))
same_answer_as RCounter object es gs ranked too apart far same = ap Sum (same_rcounter_sum object es gs apart far same)

pub same_events_answer_alike : (w : ℕ) (g h : History) (object : ObjectId) → IsTrue (is_history w g) → IsTrue (is_history w h) → SameEvents g h → answer object (events g) ≡ answer object (events h)
same_events_answer_alike w g h object followed t same = same_answer_as object.kind object (events g) (events h) (ranks_differ w g followed) (ranks_differ w h t) (events_are_apart w g followed) (events_are_apart w h t) same
