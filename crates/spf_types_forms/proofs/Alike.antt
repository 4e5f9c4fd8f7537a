-- Scopes in which the same slots may be used: the same forms are lawful there.
use Rattle.std.proofs.Common.{◌≡◌, ℕ, ◌+◌, Bool, Option, Some, None, inl, inr, List, [], ◌∷◌, ◌++◌, length, refl, sym, ap, ◌∙◌}
use Rattle.std.specs.Prelude.{IfSome, slice_get}
use Rattle.std.specs.List.{All, Contains}
use Rattle.std.proofs.lemmas.List.Elements.{All-contains, All-contains_itself}
use Rattle.spf_ast.specs.Syntax.{Expression, Number, Local, Len, Input, Load, Call, Neg, Binary, Arguments, no_more, argument, Condition, Compare, Both, Either, Not, Predictor, By, Host}
use Rattle.spf_ast.specs.Syntax.{Statement, Let, Assign, Store, Fill, Emit, Fail, If, For, While, Do, Fold, Pair, Break, Block, end, on_line}
use Rattle.spf_ast.specs.Lawful.{Names, Scope, behind, showing, showing_fixed, showing_all_fixed, showing_each, in_turn, in_part, scope_after, scope_at_end, declared, declared_in, in_predictor, in_body, in_producer, in_consumer, Declares, DeclaresEach, IsLawfulExpression, AreLawfulArguments, IsLawfulCondition, IsLawfulPredictor, AreLawfulPredictors, IsLawfulStatement, IsLawfulBlock}
use Rattle.spf_types_forms.proofs.Sound.{contains_here, contains_there, contains_cases}

pub record Alike (one other : Scope) : Type 0 where
  pub shown : (k : ℕ) → Contains one.visible k → Contains other.visible k
  pub shown_back : (k : ℕ) → Contains other.visible k → Contains one.visible k
  pub fixed_back : (k : ℕ) → Contains other.fixed k → Contains one.fixed k
  pub next : one.next ≡ other.next
  pub in_loop : one.in_loop ≡ other.in_loop

pub alike_itself : (one : Scope) → Alike one one
alike_itself one = record { shown = λ k h. h; shown_back = λ k h. h; fixed_back = λ k h. h; next = refl; in_loop = refl }

pub alike_through : (one other third : Scope) → Alike one other → Alike other third → Alike one third
alike_through one other third a b = record {
  shown = λ k h. b.shown k (a.shown k h);
  shown_back = λ k h. a.shown_back k (b.shown_back k h);
  fixed_back = λ k h. a.fixed_back k (b.fixed_back k h);
  next = a.next ∙ b.next;
  in_loop = a.in_loop ∙ b.in_loop;
}

pub contains_both : (x : ℕ) (xs ys : List ℕ) → ((k : ℕ) → Contains xs k → Contains ys k) → (k : ℕ) → Contains (x ∷ xs) k → Contains (x ∷ ys) k
contains_both x xs ys f k h = elim (contains_cases x k xs h) [ inl e ↦ contains_here x k ys e | inr g ↦ contains_there x k ys (f k g) ]

pub alike_behind : (one other : Scope) (k : ℕ) → Alike one other → Alike (behind k one) (behind k other)
alike_behind one other k a = record { shown = a.shown; shown_back = a.shown_back; fixed_back = a.fixed_back; next = ap (λ n. n + k) a.next; in_loop = a.in_loop }

pub alike_showing : (one other : Scope) (x : ℕ) → Alike one other → Alike (showing x one) (showing x other)
alike_showing one other x a = record {
  shown = contains_both x one.visible other.visible a.shown;
  shown_back = contains_both x other.visible one.visible a.shown_back;
  fixed_back = a.fixed_back;
  next = a.next;
  in_loop = a.in_loop;
}

pub alike_fixed : (one other : Scope) (x : ℕ) → Alike one other → Alike (showing_fixed x one) (showing_fixed x other)
alike_fixed one other x a = record {
  shown = contains_both x one.visible other.visible a.shown;
  shown_back = contains_both x other.visible one.visible a.shown_back;
  fixed_back = contains_both x other.fixed one.fixed a.fixed_back;
  next = a.next;
  in_loop = a.in_loop;
}

contains_all : (front xs ys : List ℕ) → ((k : ℕ) → Contains xs k → Contains ys k) → (k : ℕ) → Contains (front ++ xs) k → Contains (front ++ ys) k
contains_all [] xs ys f = f
contains_all (x ∷ front) xs ys f = contains_both x (front ++ xs) (front ++ ys) (contains_all front xs ys f)

pub to_front : (front slots : List ℕ) (n k : ℕ) → Contains (front ++ n ∷ slots) k → Contains (n ∷ (front ++ slots)) k
to_front [] slots n k h = h
to_front (f ∷ front) slots n k h = elim (contains_cases f k (front ++ n ∷ slots) h) [
  | inl e ↦ contains_there n k (f ∷ (front ++ slots)) (contains_here f k (front ++ slots) e)
  | inr g ↦ elim (contains_cases n k (front ++ slots) (to_front front slots n k g)) [
    | inl e ↦ contains_here n k (f ∷ (front ++ slots)) e
    | inr later ↦ contains_there n k (f ∷ (front ++ slots)) (contains_there f k (front ++ slots) later)
  ]
]

pub from_front : (front slots : List ℕ) (n k : ℕ) → Contains (n ∷ (front ++ slots)) k → Contains (front ++ n ∷ slots) k
from_front [] slots n k h = h
from_front (f ∷ front) slots n k h = elim (contains_cases n k (f ∷ (front ++ slots)) h) [
  | inl e ↦ contains_there f k (front ++ n ∷ slots) (from_front front slots n k (contains_here n k (front ++ slots) e))
  | inr g ↦ elim (contains_cases f k (front ++ slots) g) [
    | inl e ↦ contains_here f k (front ++ n ∷ slots) e
    | inr later ↦ contains_there f k (front ++ n ∷ slots) (from_front front slots n k (contains_there n k (front ++ slots) later))
  ]
]

-- slots that are shown from left to right are those, and what was visible before
pub each_is_there : (slots : List ℕ) (s : Scope) (k : ℕ) → Contains (showing_each slots s).visible k → Contains (slots ++ s.visible) k
each_is_there [] s k h = h
each_is_there (slot ∷ slots) s k h = to_front slots s.visible slot k (each_is_there slots (behind 1 (showing slot s)) k h)

pub there_is_each : (slots : List ℕ) (s : Scope) (k : ℕ) → Contains (slots ++ s.visible) k → Contains (showing_each slots s).visible k
there_is_each [] s k h = h
there_is_each (slot ∷ slots) s k h = there_is_each slots (behind 1 (showing slot s)) k (from_front slots s.visible slot k h)

alike_all_fixed : (one other : Scope) (slots : List ℕ) → Alike one other → Alike (showing_all_fixed slots one) (showing_all_fixed slots other)
alike_all_fixed one other slots a = record {
  shown = contains_all slots one.visible other.visible a.shown;
  shown_back = contains_all slots other.visible one.visible a.shown_back;
  fixed_back = contains_all slots other.fixed one.fixed a.fixed_back;
  next = a.next;
  in_loop = a.in_loop;
}

alike_turn : (one other : Scope) → Alike one other → Alike (in_turn one) (in_turn other)
alike_turn one other a = record { shown = a.shown; shown_back = a.shown_back; fixed_back = a.fixed_back; next = a.next; in_loop = refl }

alike_part : (one other : Scope) → Alike one other → Alike (in_part one) (in_part other)
alike_part one other a = record { shown = a.shown; shown_back = a.shown_back; fixed_back = a.fixed_back; next = a.next; in_loop = refl }

alike_each : (one other : Scope) (slots : List ℕ) → Alike one other → Alike (showing_each slots one) (showing_each slots other)
alike_each one other [] a = a
alike_each one other (slot ∷ slots) a =
    alike_each (behind 1 (showing slot one)) (behind 1 (showing slot other)) slots (alike_behind (showing slot one) (showing slot other) 1 (alike_showing one other slot a))

alike_slots : (one other : Scope) (slots : List ℕ) (count : ℕ) → Alike one other → Alike (record one { visible = slots ++ one.visible; next = one.next + count }) (record other { visible = slots ++ other.visible; next = other.next + count })
alike_slots one other slots count a = record {
  shown = contains_all slots one.visible other.visible a.shown;
  shown_back = contains_all slots other.visible one.visible a.shown_back;
  fixed_back = a.fixed_back;
  next = ap (λ n. n + count) a.next;
  in_loop = a.in_loop;
}

alike_after : (one other : Scope) (s : Statement) → Alike one other → Alike (scope_after one s) (scope_after other s)
alike_after one other (Let x value) a = alike_behind (showing x one) (showing x other) 1 (alike_showing one other x a)
alike_after one other (Assign x value) a = alike_behind one other 0 a
alike_after one other (Store x i value) a = alike_behind one other 0 a
alike_after one other (Fill x low high value) a = alike_behind one other 0 a
alike_after one other (Emit value) a = alike_behind one other 0 a
alike_after one other (Fail number) a = alike_behind one other 0 a
alike_after one other (If test p q) a = alike_behind one other (declared (If test p q)) a
alike_after one other (For x low high body) a = alike_behind one other (declared (For x low high body)) a
alike_after one other (While test most body) a = alike_behind one other (declared (While test most body)) a
alike_after one other (Do f given) a = alike_behind one other 0 a
alike_after one other (Fold head body) a = alike_slots one other head.carried (declared (Fold head body)) a
alike_after one other (Pair head p q) a = alike_slots one other head.carried (declared (Pair head p q)) a
alike_after one other Break a = alike_behind one other 0 a

pub alike_end : (one other : Scope) (b : Block) → Alike one other → Alike (scope_at_end one b) (scope_at_end other b)
alike_end one other end a = a
alike_end one other (on_line line s rest) a = alike_end (scope_after one s) (scope_after other s) rest (alike_after one other s a)

mutual
  pub alike_expression : (names : Names) (one other : Scope) (e : Expression) → Alike one other → IsLawfulExpression names one e → IsLawfulExpression names other e
  alike_expression names one other (Number n) a h = h
  alike_expression names one other (Local slot) a h = a.shown slot h
  alike_expression names one other Len a h = h
  alike_expression names one other (Input i) a h = alike_expression names one other i a h
  alike_expression names one other (Load x i) a h = (h.0, alike_expression names one other i a h.1)
  alike_expression names one other (Call f given) a h = (h.0, alike_arguments names one other given a h.1)
  alike_expression names one other (Neg i) a h = alike_expression names one other i a h
  alike_expression names one other (Binary op p q) a h = (alike_expression names one other p a h.0, alike_expression names one other q a h.1)

  pub alike_arguments : (names : Names) (one other : Scope) (es : Arguments) → Alike one other → AreLawfulArguments names one es → AreLawfulArguments names other es
  alike_arguments names one other no_more a h = h
  alike_arguments names one other (argument first rest) a h = (alike_expression names one other first a h.0, alike_arguments names one other rest a h.1)

alike_condition : (names : Names) (one other : Scope) (c : Condition) → Alike one other → IsLawfulCondition names one c → IsLawfulCondition names other c
alike_condition names one other (Compare t p q) a h = (alike_expression names one other p a h.0, alike_expression names one other q a h.1)
alike_condition names one other (Both p q) a h = (alike_condition names one other p a h.0, alike_condition names one other q a h.1)
alike_condition names one other (Either p q) a h = (alike_condition names one other p a h.0, alike_condition names one other q a h.1)
alike_condition names one other (Not p) a h = alike_condition names one other p a h

alike_predictor : (names : Names) (one other : Scope) (p : Predictor) → Alike one other → IsLawfulPredictor names one p → IsLawfulPredictor names other p
alike_predictor names one other (By e) a h = alike_expression names one other e a h
alike_predictor names one other (Host n) a h = h

alike_predictors : (names : Names) (one other : Scope) (ps : List Predictor) → Alike one other → AreLawfulPredictors names one ps → AreLawfulPredictors names other ps
alike_predictors names one other [] a h = h
alike_predictors names one other (p ∷ ps) a h = (alike_predictor names one other p a h.0, alike_predictors names one other ps a h.1)

pub all_along : (P : ℕ → Type 0) (xs ys : List ℕ) → ((k : ℕ) → Contains ys k → Contains xs k) → All P xs → All P ys
all_along P xs ys f ps k d h = All-contains P xs _ ps (f _ (All-contains_itself ys k d h))

pub new_along : (o : Option (List ℕ)) (P : List ℕ → Type 0) (slots : List (List ℕ)) (xs ys : List ℕ) → ((k : ℕ) → Contains ys k → Contains xs k) → IfSome o (λ x. P x × All (λ other. slice_get slots other ≡ Some x → ⊥) xs) → IfSome o (λ x. P x × All (λ other. slice_get slots other ≡ Some x → ⊥) ys)
new_along (Some x) P slots xs ys f h = (h.0, all_along (λ (other : ℕ). slice_get slots other ≡ Some x → ⊥) xs ys f h.1)
new_along None P slots xs ys f h = h

pub alike_declares : (names : Names) (one other : Scope) (slot : ℕ) → Alike one other → Declares names one slot → Declares names other slot
alike_declares names one other slot a h =
    (h.0 ∙ a.next, new_along (slice_get names.slots slot) (λ x. Contains names.taken x → ⊥) names.slots one.visible other.visible a.shown_back h.1)

alike_declares_each : (names : Names) (one other : Scope) (slots : List ℕ) → Alike one other → DeclaresEach names one slots → DeclaresEach names other slots
alike_declares_each names one other [] a h = h
alike_declares_each names one other (slot ∷ slots) a h = (
  alike_declares names one other slot a h.0,
  alike_declares_each names (behind 1 (showing slot one)) (behind 1 (showing slot other)) slots (alike_behind (showing slot one) (showing slot other) 1 (alike_showing one other slot a)) h.1,
)

alike_body : (one other : Scope) (carried : List ℕ) (block : ℕ) → Alike one other → Alike (in_body one carried block) (in_body other carried block)
alike_body one other carried block a =
    alike_part _ _ (alike_behind (showing_fixed block (showing_all_fixed carried one)) (showing_fixed block (showing_all_fixed carried other)) (length carried + 1)
    (alike_fixed (showing_all_fixed carried one) (showing_all_fixed carried other) block (alike_all_fixed one other carried a)))

mutual
  pub alike_statement : (names : Names) (m : Bool) (one other : Scope) (s : Statement) → Alike one other → IsLawfulStatement names m one s → IsLawfulStatement names m other s
  alike_statement names m one other (Let x value) a h = (alike_expression names one other value a h.0, alike_declares names one other x a h.1)
  alike_statement names m one other (Assign x value) a h = (a.shown x h.0, λ k. h.1 (a.fixed_back x k), alike_expression names one other value a h.2)
  alike_statement names m one other (Store x i value) a h = (h.0, alike_expression names one other i a h.1, alike_expression names one other value a h.2)
  alike_statement names m one other (Fill x low high value) a h = (h.0, alike_expression names one other low a h.1, alike_expression names one other high a h.2, alike_expression names one other value a h.3)
  alike_statement names m one other (Emit value) a h = (h.0, alike_expression names one other value a h.1)
  alike_statement names m one other (Fail number) a h = h
  alike_statement names m one other (If test p q) a h =
      (alike_condition names one other test a h.0, alike_block names m one other p a h.1, alike_block names m (behind (declared_in p) one) (behind (declared_in p) other) q (alike_behind one other (declared_in p) a) h.2)
  alike_statement names m one other (For x low high body) a h =
      (alike_expression names one other low a h.0, alike_expression names one other high a h.1, alike_declares names one other x a h.2, alike_block names m (in_turn (behind 1 (showing_fixed x one))) (in_turn (behind 1 (showing_fixed x other))) body (alike_turn _ _ (alike_behind (showing_fixed x one) (showing_fixed x other) 1 (alike_fixed one other x a))) h.3)
  alike_statement names m one other (While test most body) a h = (alike_condition names one other test a h.0, h.1, alike_block names m (in_turn one) (in_turn other) body (alike_turn one other a) h.2)
  alike_statement names m one other (Do f given) a h = (h.0, alike_arguments names one other given a h.1)
  alike_statement names m one other (Fold head body) a h =
      let inside = alike_body one other head.carried head.block a in (
        alike_arguments names one other head.start a h.0,
        alike_expression names one other head.low a h.1,
        alike_expression names one other head.high a h.2,
        alike_declares_each names one other head.carried a h.3,
        alike_declares names (showing_each head.carried one) (showing_each head.carried other) head.block (alike_each one other head.carried a) h.4,
        alike_predictors names (in_predictor one head.block) (in_predictor other head.block) head.predict (alike_fixed one other head.block a) h.5,
        alike_block names m (in_body one head.carried head.block) (in_body other head.carried head.block) body inside h.6,
        alike_arguments names (scope_at_end (in_body one head.carried head.block) body) (scope_at_end (in_body other head.carried head.block) body) head.next (alike_end (in_body one head.carried head.block) (in_body other head.carried head.block) body inside) h.7,
        h.8,
      )
  alike_statement names m one other (Pair head p q) a h =
      let b = alike_part _ _ (alike_behind one other (length head.carried) a) in (
        alike_declares_each names one other head.carried a h.0,
        alike_block names m (in_producer one head.carried) (in_producer other head.carried) p b h.1,
        alike_arguments names (scope_at_end (in_producer one head.carried) p) (scope_at_end (in_producer other head.carried) p) head.give (alike_end (in_producer one head.carried) (in_producer other head.carried) p b) h.2,
        alike_predictors names one other head.predict a h.3,
        alike_block names m (in_consumer one head.carried p) (in_consumer other head.carried p) q (alike_part _ _ (alike_behind (showing_all_fixed head.carried one) (showing_all_fixed head.carried other) (length head.carried + declared_in p) (alike_all_fixed one other head.carried a))) h.4,
        h.5,
      )
  alike_statement names m one other Break a h = (h.0, sym a.in_loop ∙ h.1)

  pub alike_block : (names : Names) (m : Bool) (one other : Scope) (b : Block) → Alike one other → IsLawfulBlock names m one b → IsLawfulBlock names m other b
  alike_block names m one other end a h = h
  alike_block names m one other (on_line line s rest) a h = (alike_statement names m one other s a h.0, alike_block names m (scope_after one s) (scope_after other s) rest (alike_after one other s a) h.1)
