-- How what is found in statements goes together with how they are left.
use Rattle.std.proofs.Common.{ℕ, Bool, true, false, List, [], ◌∷◌, ◌++◌, ℤ}
use Rattle.std.specs.Prelude.{if◌then◌else◌}
use Rattle.spf_ast.specs.declared.outcome.Trap.{Trap}
use Rattle.spf_ast.specs.Interaction.{Interaction, Answer, AskLoad, AskStore, AskTurn, bind, Flow, Onward, Broken, State, Ending, Value, Trapped, after_ending, unless_broken, Meaning}
use Rattle.spf_ast.specs.Meaning.{Extent}
use Rattle.spf_ast.specs.GoingOn.{GoesOn}
use Rattle.spf_region.specs.Ranges.{Offsets}
use Rattle.spf_effects_findings.specs.Found.{Finds, ◌then◌, finds_nothing, perhaps, either}
use Rattle.spf_effects_laws.specs.Ways.{Keeps}
use Rattle.spf_effects_laws.proofs.Ways.{in-none, Grows, keeps-bind, keeps-mono}
use Rattle.spf_effects_laws.proofs.Meeting.{IsAmong, AreStored, EndsWith, Meets, LeavesWith, Leaves}
use Rattle.spf_effects_laws.proofs.Meets.{among-left, among-right, IsLess, less-same, less-left, less-right}

-- ---- what is claimed of each flow

abbrev pub ByFlow : (onward broken : State → List ℕ → Type 0) → Flow → State → List ℕ → Type 0
ByFlow onward broken Onward s d = onward s d
ByFlow onward broken Broken s d = broken s d

pub by-flow : {onward broken more most : State → List ℕ → Type 0} → ((s : State) (d : List ℕ) → onward s d → more s d) → ((s : State) (d : List ℕ) → broken s d → most s d) → (flow : Flow) (s : State) (d : List ℕ) → ByFlow onward broken flow s d → ByFlow more most flow s d
by-flow p q Onward s d h = p s d h
by-flow p q Broken s d h = q s d h

-- one thing of both
pub of-flow : {onward broken post : State → List ℕ → Type 0} → ((s : State) (d : List ℕ) → onward s d → post s d) → ((s : State) (d : List ℕ) → broken s d → post s d) → (flow : Flow) (s : State) (d : List ℕ) → ByFlow onward broken flow s d → post s d
of-flow p q Onward s d h = p s d h
of-flow p q Broken s d h = q s d h

-- ---- statements

-- as another thing that finds no less and has no more written
pub leaves-as : {g : List Extent} {k : ℤ} {f h : Finds} {onward broken more most : State → List ℕ → Type 0} {t : Interaction (Ending Flow)} → IsLess g k f h → ((s : State) (d : List ℕ) → onward s d → more s d) → ((s : State) (d : List ℕ) → broken s d → most s d) → Leaves g k f onward broken t → Leaves g k h more most t
leaves-as {g} {k} {f} {h} {onward} {broken} {more} {most} {t} less p q m = record {
  holds = λ w done stored. keeps-mono (IsAmong g k (f w).may) (IsAmong g k (f w).uncovered) (IsAmong g k (h w).may) (IsAmong g k (h w).uncovered) (LeavesWith g k (f w).written onward broken) (LeavesWith g k (h w).written more most) done (less.may w) (less.uncovered w) (ending w done stored) t done (λ c i. i) (m.holds w done stored);
}
  where
    ending : (w : Offsets) (done : List ℕ) → AreStored g k w done → (e : Ending Flow) (d : List ℕ) → Grows done d → LeavesWith g k (f w).written onward broken e d → LeavesWith g k (h w).written more most e d
    ending w done stored (Value Onward s) d grows i = (less.written w done d stored grows i.0, p s d i.1)
    ending w done stored (Value Broken s) d grows i = q s d i
    ending w done stored (Trapped t' out) d grows i = tt

pub leaves-post : {g : List Extent} {k : ℤ} {f : Finds} {onward broken more most : State → List ℕ → Type 0} {t : Interaction (Ending Flow)} → ((s : State) (d : List ℕ) → onward s d → more s d) → ((s : State) (d : List ℕ) → broken s d → most s d) → Leaves g k f onward broken t → Leaves g k f more most t
leaves-post {g} {k} {f} p q m = leaves-as (less-same g k f) p q m

pub leaves-either-left : {g : List Extent} {k : ℤ} {f : Finds} (h : Finds) {onward broken : State → List ℕ → Type 0} {t : Interaction (Ending Flow)} → Leaves g k f onward broken t → Leaves g k (either f h) onward broken t
leaves-either-left {g} {k} {f} h m = leaves-as (less-left g k f h) (λ s d i. i) (λ s d i. i) m

pub leaves-either-right : {g : List Extent} {k : ℤ} (f : Finds) {h : Finds} {onward broken : State → List ℕ → Type 0} {t : Interaction (Ending Flow)} → Leaves g k h onward broken t → Leaves g k (either f h) onward broken t
leaves-either-right {g} {k} f {h} m = leaves-as (less-right g k f h) (λ s d i. i) (λ s d i. i) m

pub leaves-if : (g : List Extent) (k : ℤ) (finds : Finds) (b : Bool) (first second : Meaning Flow) (s : State) (onward broken : State → List ℕ → Type 0) → Leaves g k finds onward broken (first s) → Leaves g k finds onward broken (second s) → Leaves g k finds onward broken ((if b then first else second) s)
leaves-if g k finds true first second s onward broken m n = m
leaves-if g k finds false first second s onward broken m n = n

-- a statement that goes on
pub leaves-onward : {g : List Extent} {k : ℤ} {onward broken : State → List ℕ → Type 0} {s : State} → ((d : List ℕ) → onward s d) → Leaves g k finds_nothing onward broken (Answer (Value Onward s))
leaves-onward p = record { holds = λ w done stored. (stored, p done) }

-- one that broke off
pub leaves-broken : {g : List Extent} {k : ℤ} {onward broken : State → List ℕ → Type 0} {s : State} → ((d : List ℕ) → broken s d) → Leaves g k finds_nothing onward broken (Answer (Value Broken s))
leaves-broken p = record { holds = λ w done stored. p done }

-- one of which all is claimed, however it is left
pub leaves-plainly : {g : List Extent} {k : ℤ} {f : Finds} {onward broken : State → List ℕ → Type 0} {t : Interaction (Ending Flow)} → ((s : State) (d : List ℕ) → onward s d → broken s d) → Meets g k f (λ flow. onward) t → Leaves g k f onward broken t
leaves-plainly {g} {k} {f} {onward} {broken} {t} p m = record {
  holds = λ w done stored. keeps-mono (IsAmong g k (f w).may) (IsAmong g k (f w).uncovered) (IsAmong g k (f w).may) (IsAmong g k (f w).uncovered) (EndsWith g k (f w).written (λ flow. onward)) (LeavesWith g k (f w).written onward broken) [] (λ c i. i) (λ c i. i) (ending w) t done (λ c i. in-none c i) (m.holds w done stored);
}
  where
    ending : (w : Offsets) (e : Ending Flow) (d : List ℕ) → Grows [] d → EndsWith g k (f w).written (λ (flow : Flow). onward) e d → LeavesWith g k (f w).written onward broken e d
    ending w (Value Onward s) d grows h = h
    ending w (Value Broken s) d grows h = p s d h.1
    ending w (Trapped t' out) d grows h = tt

-- something else, and then a statement
pub leaves-then : {A : Type 0} {g : List Extent} {k : ℤ} {first next : Finds} {mid : A → State → List ℕ → Type 0} {onward broken : State → List ℕ → Type 0} {t : Interaction (Ending A)} {does : A → Meaning Flow} → Meets g k first mid t → ((a : A) (s : State) (d : List ℕ) → mid a s d → Leaves g k next onward broken (does a s)) → Leaves g k (first then next) onward broken (bind t (after_ending does))
leaves-then {A} {g} {k} {first} {next} {mid} {onward} {broken} {t} {does} m n = record {
  holds = λ w done stored.
      let a = first w in
      let b = next a.written in
      keeps-bind (IsAmong g k (a.may ++ b.may)) (IsAmong g k (a.uncovered ++ b.uncovered)) (EndsWith g k a.written mid) (LeavesWith g k b.written onward broken) (after_ending does)
      (went w)
      t done
      (keeps-mono (IsAmong g k a.may) (IsAmong g k a.uncovered) (IsAmong g k (a.may ++ b.may)) (IsAmong g k (a.uncovered ++ b.uncovered)) (EndsWith g k a.written mid) (EndsWith g k a.written mid) [] (among-left g k a.may b.may) (among-left g k a.uncovered b.uncovered) (λ x d grows h. h) t done (λ c h. in-none c h) (m.holds w done stored));
}
  where
    went : (w : Offsets) (e : Ending A) (d : List ℕ) → EndsWith g k (first w).written mid e d → Keeps (IsAmong g k ((first w).may ++ (next (first w).written).may)) (IsAmong g k ((first w).uncovered ++ (next (first w).written).uncovered)) (LeavesWith g k (next (first w).written).written onward broken) d (after_ending does e)
    went w (Value a s) d h =
        let x = first w in
        let y = next x.written in
        keeps-mono (IsAmong g k y.may) (IsAmong g k y.uncovered) (IsAmong g k (x.may ++ y.may)) (IsAmong g k (x.uncovered ++ y.uncovered)) (LeavesWith g k y.written onward broken) (LeavesWith g k y.written onward broken) d (among-right g k x.may y.may) (among-right g k x.uncovered y.uncovered) (λ e d' grows i. i) (does a s) d (λ c i. i) ((n a s d h.1).holds x.written d h.0)
    went w (Trapped t' out) d h = tt

-- a statement, and then others, unless it broke off; what the first stored is still stored at the end
pub leaves-on : {g : List Extent} {k : ℤ} {first next : Finds} {mid onward broken : State → List ℕ → Type 0} {t : Interaction (Ending Flow)} {rest : Meaning Flow} → Leaves g k first mid broken t → ((s : State) (d : List ℕ) → mid s d → Leaves g k next (λ e d'. Grows d d' → onward e d') broken (rest s)) → Leaves g k (first then next) onward broken (bind t (after_ending (unless_broken rest)))
leaves-on {g} {k} {first} {next} {mid} {onward} {broken} {t} {rest} m n = record {
  holds = λ w done stored.
      let a = first w in
      let b = next a.written in
      keeps-bind (IsAmong g k (a.may ++ b.may)) (IsAmong g k (a.uncovered ++ b.uncovered)) (LeavesWith g k a.written mid broken) (LeavesWith g k b.written onward broken) (after_ending (unless_broken rest))
      (went w)
      t done
      (keeps-mono (IsAmong g k a.may) (IsAmong g k a.uncovered) (IsAmong g k (a.may ++ b.may)) (IsAmong g k (a.uncovered ++ b.uncovered)) (LeavesWith g k a.written mid broken) (LeavesWith g k a.written mid broken) [] (among-left g k a.may b.may) (among-left g k a.uncovered b.uncovered) (λ x d grows h. h) t done (λ c h. in-none c h) (m.holds w done stored));
}
  where
    ending : (w : Offsets) (d : List ℕ) (e : Ending Flow) (d' : List ℕ) → Grows d d' → LeavesWith g k (next (first w).written).written (λ e' d''. Grows d d'' → onward e' d'') broken e d' → LeavesWith g k (next (first w).written).written onward broken e d'
    ending w d (Value Onward e) d' grows h = (h.0, h.1 grows)
    ending w d (Value Broken e) d' grows h = h
    ending w d (Trapped t' out) d' grows h = tt

    went : (w : Offsets) (e : Ending Flow) (d : List ℕ) → LeavesWith g k (first w).written mid broken e d → Keeps (IsAmong g k ((first w).may ++ (next (first w).written).may)) (IsAmong g k ((first w).uncovered ++ (next (first w).written).uncovered)) (LeavesWith g k (next (first w).written).written onward broken) d (after_ending (unless_broken rest) e)
    went w (Value Onward s) d h =
        let x = first w in
        let y = next x.written in
        keeps-mono (IsAmong g k y.may) (IsAmong g k y.uncovered) (IsAmong g k (x.may ++ y.may)) (IsAmong g k (x.uncovered ++ y.uncovered)) (LeavesWith g k y.written (λ e' d'. Grows d d' → onward e' d') broken) (LeavesWith g k y.written onward broken) d (among-right g k x.may y.may) (among-right g k x.uncovered y.uncovered) (ending w d) (rest s) d (λ c i. i) ((n s d h.1).holds x.written d h.0)
    went w (Value Broken s) d h = h
    went w (Trapped t' out) d h = tt

-- a statement that may be left out, of which nothing is surely written
pub meets-left : {g : List Extent} {k : ℤ} {f : Finds} {onward broken : State → List ℕ → Type 0} {t : Interaction (Ending Flow)} → Leaves g k f onward broken t → Meets g k (perhaps f) (ByFlow onward broken) t
meets-left {g} {k} {f} {onward} {broken} {t} m = record {
  holds = λ w done stored. keeps-mono (IsAmong g k (f w).may) (IsAmong g k (f w).uncovered) (IsAmong g k (f w).may) (IsAmong g k (f w).uncovered) (LeavesWith g k (f w).written onward broken) (EndsWith g k w (ByFlow onward broken)) done (λ c i. i) (λ c i. i) (ending w done stored) t done (λ c i. i) (m.holds w done stored);
}
  where
    ending : (w : Offsets) (done : List ℕ) → AreStored g k w done → (e : Ending Flow) (d : List ℕ) → Grows done d → LeavesWith g k (f w).written onward broken e d → EndsWith g k w (ByFlow onward broken) e d
    ending w done stored (Value Onward s) d grows h = ((λ a q o cell index e i j. grows cell (stored a q o cell index e i j)), h.1)
    ending w done stored (Value Broken s) d grows h = ((λ a q o cell index e i j. grows cell (stored a q o cell index e i j)), h)
    ending w done stored (Trapped t' out) d grows h = tt

-- ---- statements that go on

goes-keeps : (may bare : ℕ → Type 0) (ends ends' : Ending Flow → List ℕ → Type 0) → ((s : State) (d : List ℕ) → ends (Value Onward s) d → ends' (Value Onward s) d) → ((t : Trap) (out : List ℕ) (d : List ℕ) → ends (Trapped t out) d → ends' (Trapped t out) d) → (t : Interaction (Ending Flow)) (done : List ℕ) → GoesOn t → Keeps may bare ends done t → Keeps may bare ends' done t
goes-keeps may bare ends ends' p q (Answer (Value Onward s)) done goes h = p s done h
goes-keeps may bare ends ends' p q (Answer (Value Broken s)) done goes h = absurd goes
goes-keeps may bare ends ends' p q (Answer (Trapped t out)) done goes h = q t out done h
goes-keeps may bare ends ends' p q (AskLoad c given) done goes h = (h.0, λ w. goes-keeps may bare ends ends' p q (given w) done (goes w) (h.1 w))
goes-keeps may bare ends ends' p q (AskStore c w t) done goes h = (h.0, goes-keeps may bare ends ends' p q t (c ∷ done) goes h.1)
goes-keeps may bare ends ends' p q (AskTurn t) done goes h = goes-keeps may bare ends ends' p q t done goes h

-- it never breaks off, so anything may be claimed of that
pub leaves-goes : {g : List Extent} {k : ℤ} {f : Finds} {onward broken most : State → List ℕ → Type 0} {t : Interaction (Ending Flow)} → GoesOn t → Leaves g k f onward broken t → Leaves g k f onward most t
leaves-goes {g} {k} {f} {onward} {broken} {most} {t} goes m = record {
  holds = λ w done stored. goes-keeps (IsAmong g k (f w).may) (IsAmong g k (f w).uncovered) (LeavesWith g k (f w).written onward broken) (LeavesWith g k (f w).written onward most) (λ s d h. h) (λ t' out d h. tt) t done goes (m.holds w done stored);
}

-- all that is found is done
pub meets-onward : {g : List Extent} {k : ℤ} {f : Finds} {onward broken : State → List ℕ → Type 0} {t : Interaction (Ending Flow)} → GoesOn t → Leaves g k f onward broken t → Meets g k f (λ flow. onward) t
meets-onward {g} {k} {f} {onward} {broken} {t} goes m = record {
  holds = λ w done stored. goes-keeps (IsAmong g k (f w).may) (IsAmong g k (f w).uncovered) (LeavesWith g k (f w).written onward broken) (EndsWith g k (f w).written (λ (flow : Flow). onward)) (λ s d h. h) (λ t' out d h. tt) t done goes (m.holds w done stored);
}
