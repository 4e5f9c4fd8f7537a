-- How what is found goes together with what is done.
use Rattle.std.proofs.Common.{◌≡◌, ◌⊎◌, inl, inr, ℕ, Bool, true, false, List, [], ◌∷◌, ◌++◌, ℤ, refl}
use Rattle.std.specs.Prelude.{Result, Ok, Err, if◌then◌else◌}
use Rattle.spf_ast.specs.declared.outcome.TrapKind.{TrapKind}
use Rattle.spf_ast.specs.declared.outcome.Trap.{Trap}
use Rattle.spf_ast.specs.Interaction.{Interaction, Answer, AskTurn, bind, State, Ending, Value, Trapped, after_ending, Meaning}
use Rattle.spf_ast.specs.Meaning.{Extent, checked}
use Rattle.spf_region.specs.declared.range.Range.{Range}
use Rattle.spf_region.specs.Ranges.{Offsets}
use Rattle.spf_region.proofs.Bools.{and-left, and-right}
use Rattle.spf_effects_findings.specs.Found.{Finds, ◌then◌, finds_nothing, perhaps, either, nowhere}
use Rattle.spf_effects_laws.specs.Ways.{Keeps}
use Rattle.spf_effects_laws.proofs.Ways.{in-none, Grows, keeps-bind, keeps-mono, keeps-both, Anything}
use Rattle.spf_effects_laws.proofs.Meeting.{IsAmong, AreStored, EndsWith, Meets}

-- with something else written
abbrev pub writing : (Offsets → Offsets) → Finds → Finds
writing h f w = record (f w) { written = h w }

pub among-left : (g : List Extent) (k : ℤ) (r s : List Range) (c : ℕ) → IsAmong g k r c → IsAmong g k (r ++ s) c
among-left g k [] s c h = absurd h
among-left g k (x ∷ r) s c (inl h) = inl h
among-left g k (x ∷ r) s c (inr h) = inr (among-left g k r s c h)

pub among-right : (g : List Extent) (k : ℤ) (r s : List Range) (c : ℕ) → IsAmong g k s c → IsAmong g k (r ++ s) c
among-right g k [] s c h = h
among-right g k (x ∷ r) s c h = inr (among-right g k r s c h)

among-nil : (g : List Extent) (k : ℤ) (r : List Range) (c : ℕ) → IsAmong g k (r ++ []) c → IsAmong g k r c
among-nil g k [] c h = h
among-nil g k (x ∷ r) c (inl h) = inl h
among-nil g k (x ∷ r) c (inr h) = inr (among-nil g k r c h)

among-twice : (g : List Extent) (k : ℤ) (r : List Range) (s : List Range) (c : ℕ) → IsAmong g k (r ++ s) c → IsAmong g k r c ⊎ IsAmong g k s c
among-twice g k [] s c h = inr h
among-twice g k (x ∷ r) s c (inl h) = inl (inl h)
among-twice g k (x ∷ r) s c (inr h) = go (among-twice g k r s c h)
  where
    go : IsAmong g k r c ⊎ IsAmong g k s c → IsAmong g k (x ∷ r) c ⊎ IsAmong g k s c
    go (inl y) = inl (inr y)
    go (inr y) = inr y

-- one after the other; what the first stored is still stored at the end
pub meets-then-grown : {A B : Type 0} {g : List Extent} {k : ℤ} {first next : Finds} {mid : A → State → List ℕ → Type 0} {post : B → State → List ℕ → Type 0} {t : Interaction (Ending A)} {does : A → Meaning B} → Meets g k first mid t → ((a : A) (s : State) (d : List ℕ) → mid a s d → Meets g k next (λ b e d'. Grows d d' → post b e d') (does a s)) → Meets g k (first then next) post (bind t (after_ending does))
meets-then-grown {A} {B} {g} {k} {first} {next} {mid} {post} {t} {does} m n = record {
  holds = λ w done stored.
      let a = first w in
      let b = next a.written in
      keeps-bind (IsAmong g k (a.may ++ b.may)) (IsAmong g k (a.uncovered ++ b.uncovered)) (EndsWith g k a.written mid) (EndsWith g k b.written post) (after_ending does)
      (went w)
      t done
      (keeps-mono (IsAmong g k a.may) (IsAmong g k a.uncovered) (IsAmong g k (a.may ++ b.may)) (IsAmong g k (a.uncovered ++ b.uncovered)) (EndsWith g k a.written mid) (EndsWith g k a.written mid) [] (among-left g k a.may b.may) (among-left g k a.uncovered b.uncovered) (λ x d grows h. h) t done (λ c h. in-none c h) (m.holds w done stored));
}
  where
    ending : (w : Offsets) (d : List ℕ) (e : Ending B) (d' : List ℕ) → Grows d d' → EndsWith g k (next (first w).written).written (λ b e' d''. Grows d d'' → post b e' d'') e d' → EndsWith g k (next (first w).written).written post e d'
    ending w d (Value b e) d' grows h = (h.0, h.1 grows)
    ending w d (Trapped t' out) d' grows h = tt

    went : (w : Offsets) (e : Ending A) (d : List ℕ) → EndsWith g k (first w).written mid e d → Keeps (IsAmong g k ((first w).may ++ (next (first w).written).may)) (IsAmong g k ((first w).uncovered ++ (next (first w).written).uncovered)) (EndsWith g k (next (first w).written).written post) d (after_ending does e)
    went w (Value a s) d h =
        let x = first w in
        let y = next x.written in
        keeps-mono (IsAmong g k y.may) (IsAmong g k y.uncovered) (IsAmong g k (x.may ++ y.may)) (IsAmong g k (x.uncovered ++ y.uncovered)) (EndsWith g k y.written (λ b e' d'. Grows d d' → post b e' d')) (EndsWith g k y.written post) d (among-right g k x.may y.may) (among-right g k x.uncovered y.uncovered) (ending w d) (does a s) d (λ c i. i) ((n a s d h.1).holds x.written d h.0)
    went w (Trapped t' out) d h = tt

-- as another thing that finds no less and has no more written
pub record IsLess (g : List Extent) (k : ℤ) (f h : Finds) : Type 0 where
  pub may : (w : Offsets) (c : ℕ) → IsAmong g k (f w).may c → IsAmong g k (h w).may c
  pub uncovered : (w : Offsets) (c : ℕ) → IsAmong g k (f w).uncovered c → IsAmong g k (h w).uncovered c
  pub written : (w : Offsets) (done d : List ℕ) → AreStored g k w done → Grows done d → AreStored g k (f w).written d → AreStored g k (h w).written d

pub meets-as : {A : Type 0} {g : List Extent} {k : ℤ} {f h : Finds} {mid post : A → State → List ℕ → Type 0} {t : Interaction (Ending A)} → IsLess g k f h → ((a : A) (s : State) (d : List ℕ) → mid a s d → post a s d) → Meets g k f mid t → Meets g k h post t
meets-as {A} {g} {k} {f} {h} {mid} {post} {t} less p m = record {
  holds = λ w done stored. keeps-mono (IsAmong g k (f w).may) (IsAmong g k (f w).uncovered) (IsAmong g k (h w).may) (IsAmong g k (h w).uncovered) (EndsWith g k (f w).written mid) (EndsWith g k (h w).written post) done (less.may w) (less.uncovered w) (ending w done stored) t done (λ c i. i) (m.holds w done stored);
}
  where
    ending : (w : Offsets) (done : List ℕ) → AreStored g k w done → (e : Ending A) (d : List ℕ) → Grows done d → EndsWith g k (f w).written mid e d → EndsWith g k (h w).written post e d
    ending w done stored (Value a s) d grows i = (less.written w done d stored grows i.0, p a s d i.1)
    ending w done stored (Trapped t' out) d grows i = tt

pub less-same : (g : List Extent) (k : ℤ) (f : Finds) → IsLess g k f f
less-same g k f = record { may = λ w c h. h; uncovered = λ w c h. h; written = λ w done d p q r. r }

pub meets-post : {A : Type 0} {g : List Extent} {k : ℤ} {f : Finds} {mid post : A → State → List ℕ → Type 0} {t : Interaction (Ending A)} → ((a : A) (s : State) (d : List ℕ) → mid a s d → post a s d) → Meets g k f mid t → Meets g k f post t
meets-post {A} {g} {k} {f} p m = meets-as (less-same g k f) p m

pub meets-then : {A B : Type 0} {g : List Extent} {k : ℤ} {first next : Finds} {mid : A → State → List ℕ → Type 0} {post : B → State → List ℕ → Type 0} {t : Interaction (Ending A)} {does : A → Meaning B} → Meets g k first mid t → ((a : A) (s : State) (d : List ℕ) → mid a s d → Meets g k next post (does a s)) → Meets g k (first then next) post (bind t (after_ending does))
meets-then m n = meets-then-grown m (λ a s d h. meets-post (λ b e d' i grows. i) (n a s d h))

pub meets-perhaps : {A : Type 0} {g : List Extent} {k : ℤ} {f : Finds} {post : A → State → List ℕ → Type 0} {t : Interaction (Ending A)} → Meets g k f post t → Meets g k (perhaps f) post t
meets-perhaps {A} {g} {k} {f} m = meets-as (record { may = λ w c h. h; uncovered = λ w c h. h; written = λ w done d p grows r a q o cell index e i j. grows cell (p a q o cell index e i j) }) (λ a s d h. h) m

-- one of two
pub less-left : (g : List Extent) (k : ℤ) (f h : Finds) → IsLess g k f (either f h)
less-left g k f h = record { may = λ w c i. among-left g k (f w).may (h w).may c i; uncovered = λ w c i. among-left g k (f w).uncovered (h w).uncovered c i; written = λ w done d p grows r a q o cell index e i j. r a q o cell index (and-left ((f w).written a q o) _ e) i j }

pub less-right : (g : List Extent) (k : ℤ) (f h : Finds) → IsLess g k h (either f h)
less-right g k f h = record { may = λ w c i. among-right g k (f w).may (h w).may c i; uncovered = λ w c i. among-right g k (f w).uncovered (h w).uncovered c i; written = λ w done d p grows r a q o cell index e i j. r a q o cell index (and-right ((f w).written a q o) _ e) i j }

less-nothing : (g : List Extent) (k : ℤ) (f : Finds) → IsLess g k (f then finds_nothing) f
less-nothing g k f = record { may = λ w c h. among-nil g k (f w).may c h; uncovered = λ w c h. among-nil g k (f w).uncovered c h; written = λ w done d p q r. r }

-- and then something that finds nothing
pub meets-after : {A B : Type 0} {g : List Extent} {k : ℤ} {first : Finds} {mid : A → State → List ℕ → Type 0} {post : B → State → List ℕ → Type 0} {t : Interaction (Ending A)} {does : A → Meaning B} → Meets g k first mid t → ((a : A) (s : State) (d : List ℕ) → mid a s d → Meets g k finds_nothing post (does a s)) → Meets g k first post (bind t (after_ending does))
meets-after {A} {B} {g} {k} {first} m n = meets-as (less-nothing g k first) (λ a s d h. h) (meets-then m n)

pub meets-value : {A : Type 0} {g : List Extent} {k : ℤ} {post : A → State → List ℕ → Type 0} {a : A} {s : State} → ((d : List ℕ) → post a s d) → Meets g k finds_nothing post (Answer (Value a s))
meets-value p = record { holds = λ w done stored. (stored, p done) }

pub meets-trap : {A : Type 0} {g : List Extent} {k : ℤ} {f : Finds} {post : A → State → List ℕ → Type 0} (t : Trap) (out : List ℕ) → Meets g k f post (Answer (Trapped t out))
meets-trap t out = record { holds = λ w done stored. tt }

pub meets-checked : {A : Type 0} {g : List Extent} {k : ℤ} {post : A → State → List ℕ → Type 0} (line : ℕ) (r : Result A TrapKind) (s : State) → ((a : A) (d : List ℕ) → r ≡ Ok a → post a s d) → Meets g k finds_nothing post (checked line r s)
meets-checked line (Ok a) s p = meets-value (λ d. p a d refl)
meets-checked line (Err why) s p = meets-trap _ _

-- the same thing again, from the same that is written
less-again : (g : List Extent) (k : ℤ) (f : Finds) → IsLess g k (perhaps f then perhaps f) (perhaps f)
less-again g k f = record {
  may = λ w c h. once (among-twice g k (f w).may (f w).may c h);
  uncovered = λ w c h. once (among-twice g k (f w).uncovered (f w).uncovered c h);
  written = λ w done d p q r. r;
}
  where
    once : {P : Type 0} → P ⊎ P → P
    once (inl x) = x
    once (inr x) = x

pub meets-again : {A B : Type 0} {g : List Extent} {k : ℤ} (f : Finds) {mid : A → State → List ℕ → Type 0} {post : B → State → List ℕ → Type 0} {t : Interaction (Ending A)} {does : A → Meaning B} → Meets g k (perhaps f) mid t → ((a : A) (s : State) (d : List ℕ) → mid a s d → Meets g k (perhaps f) (λ b e d'. Grows d d' → post b e d') (does a s)) → Meets g k (perhaps f) post (bind t (after_ending does))
meets-again {A} {B} {g} {k} f m n = meets-as (less-again g k f) (λ a s d h. h) (meets-then-grown m n)

pub meets-turn : {A : Type 0} {g : List Extent} {k : ℤ} {f : Finds} {post : A → State → List ℕ → Type 0} {t : Interaction (Ending A)} → Meets g k f post t → Meets g k f post (AskTurn t)
meets-turn m = record { holds = m.holds }

-- what finds nothing and leaves what is written is found by anything that keeps it
pub meets-perhaps-nothing : {A : Type 0} {g : List Extent} {k : ℤ} (f : Finds) {post : A → State → List ℕ → Type 0} {t : Interaction (Ending A)} → Meets g k finds_nothing post t → Meets g k (perhaps f) post t
meets-perhaps-nothing {A} {g} {k} f m = meets-as (record { may = λ w c h. absurd h; uncovered = λ w c h. absurd h; written = λ w done d p q r. r }) (λ a s d h. h) m

-- what holds at the end of the tree besides
pub meets-also : {A : Type 0} {g : List Extent} {k : ℤ} {f : Finds} {mid post : A → State → List ℕ → Type 0} {t : Interaction (Ending A)} → Meets g k f mid t → ((done : List ℕ) → Keeps Anything Anything (EndsWith g k nowhere post) done t) → Meets g k f (λ a s d. mid a s d × post a s d) t
meets-also {A} {g} {k} {f} {mid} {post} {t} m p = record {
  holds = λ w done stored.
      let both = keeps-both (IsAmong g k (f w).may) (IsAmong g k (f w).uncovered) Anything Anything (EndsWith g k (f w).written mid) (EndsWith g k nowhere post) t done (m.holds w done stored) (p done) in
      keeps-mono (IsAmong g k (f w).may) (IsAmong g k (f w).uncovered) (IsAmong g k (f w).may) (IsAmong g k (f w).uncovered) (λ a d. EndsWith g k (f w).written mid a d × EndsWith g k nowhere post a d) (EndsWith g k (f w).written (λ a s d. mid a s d × post a s d)) [] (λ c h. h) (λ c h. h) (ending w) t done (λ c h. in-none c h) both;
}
  where
    ending : (w : Offsets) (a : Ending A) (d : List ℕ) → Grows [] d → EndsWith g k (f w).written mid a d × EndsWith g k nowhere post a d → EndsWith g k (f w).written (λ a s d. mid a s d × post a s d) a d
    ending w (Value a s) d grows h = (h.0.0, (h.0.1, h.1.1))
    ending w (Trapped t' out) d grows h = tt

-- more is written where the end says so
pub meets-writing : {A : Type 0} {g : List Extent} {k : ℤ} (h : Offsets → Offsets) (f : Finds) {mid post : A → State → List ℕ → Type 0} {t : Interaction (Ending A)} → ((w : Offsets) (a : A) (s : State) (d : List ℕ) → AreStored g k w d → mid a s d → AreStored g k (h w) d × post a s d) → Meets g k (perhaps f) mid t → Meets g k (writing h f) post t
meets-writing {A} {g} {k} h f {mid} {post} {t} p m = record {
  holds = λ w done stored. keeps-mono (IsAmong g k (f w).may) (IsAmong g k (f w).uncovered) (IsAmong g k (f w).may) (IsAmong g k (f w).uncovered) (EndsWith g k w mid) (EndsWith g k (h w) post) [] (λ c i. i) (λ c i. i) (ending w) t done (λ c i. in-none c i) (m.holds w done stored);
}
  where
    ending : (w : Offsets) (e : Ending A) (d : List ℕ) → Grows [] d → EndsWith g k w mid e d → EndsWith g k (h w) post e d
    ending w (Value a s) d grows i = p w a s d i.0 i.1
    ending w (Trapped t' out) d grows i = tt

-- one of two, by a test
pub meets-if : {A : Type 0} {g : List Extent} {k : ℤ} {f h : Finds} {post : A → State → List ℕ → Type 0} {t : Interaction (Ending A)} (b : Bool) → (b ≡ true → Meets g k f post t) → (b ≡ false → Meets g k h post t) → Meets g k (λ w. if b then f w else h w) post t
meets-if true m n = record { holds = λ w done stored. (m refl).holds w done stored }
meets-if false m n = record { holds = λ w done stored. (n refl).holds w done stored }
