-- A scoped program is spelled without faults.
use Rattle.std.proofs.Common.{◌≡◌, ℕ, ◌+◌, ◌<◌, ◌≤◌, zero, suc, Bool, true, false, ◌||◌, inl, inr, Option, Some, None, List, [], ◌∷◌, ◌++◌, length, map, take, drop, refl, sym, ap, ◌∙◌, subst, arith, zero-add, append_assoc}
use Rattle.std.specs.Prelude.{IfSome, slice_get, slice_index_or}
use Rattle.std.specs.List.{Contains, range_with_len}
use Rattle.std.specs.Option.{option_map}
use Rattle.std.specs.Str.{bytes_eq}
use Rattle.std.proofs.lemmas.List.{length-map, length-take, take-append-drop}
use Rattle.std.proofs.lemmas.Option.{slice_get-map}
use Rattle.spf_ast.specs.Syntax.{Array, Function, Program}
use Rattle.spf_ast.specs.RawSyntax.{RawFunction}
use Rattle.spf_ast.specs.Lawful.{Names, AreDifferent, IsNew, IsLawfulFunction, IsScoped, names_at, parameters, declared_in}
use Rattle.spf_ast.specs.Spelling.{Vocabulary, vocabulary, spelled_function, spelled}
use Rattle.spf_types_names.specs.declared.fault.TypeFault.TheVariants.{Twice}
use Rattle.spf_types_names.specs.declared.globals.Outer.TheVariants as outer
use Rattle.spf_types_names.specs.Names.{has, index_in}
use Rattle.spf_types_names.specs.Globals.{Globals, either, global_named}
use Rattle.spf_types_names.specs.Faults.{Setting, Scope, showing, showing_each, when, each_declared_faults, function_faults, arrays_faults, functions_faults, faults}
use Rattle.spf_types_names.proofs.Tables.{same_bytes}
use Rattle.spf_types_forms.proofs.Steps.{none_in}
use Rattle.spf_types_forms.proofs.Sound.{contains_here, contains_there, contains_cases}
use Rattle.spf_types_forms.proofs.SoundStatements.{Stand, stand_left}
use Rattle.spf_types.proofs.SoundPrograms.{stand_self, in_range, range_in}
use Rattle.spf_types.proofs.UniquePrograms.{absent, array_named, function_named, functions_are, globals_back, contains_left, contains_right, range_step, index_inside}
use Rattle.spf_types_forms.proofs.Faultless.{Known, Shows, Ready, shows_free, shows_along, fresh_in, declared_none, block_none, valued_none}

-- ---- names of arrays and functions

not_there : (xs : List (List ℕ)) (x : List ℕ) → (Contains xs x → ⊥) → index_in xs x ≡ None
not_there [] x never = refl
not_there (y ∷ ys) x never = absent y x (bytes_eq y x) (index_in ys x) refl (λ e. never (contains_here y x ys e)) (not_there ys x (λ c. never (contains_there y x ys c)))

if_so : {A : Type 0} (o : Option A) (P Q : A → Type 0) → ((x : A) → P x → Q x) → IfSome o P → IfSome o Q
if_so (Some x) P Q f h = f x h
if_so None P Q f h = tt

-- a spelled function has as many parameters as the function
abbrev HasItsParameters : Function → Type 0
HasItsParameters f = length (take f.params f.slots) ≡ f.params

params_at : (p : Program) (fs : List Function) (k count : ℕ) → k < length fs → IfSome (slice_get fs k) (λ f. f.params ≡ count) → IfSome (slice_get fs k) HasItsParameters → count ≡ slice_index_or (map (λ (f : RawFunction). length f.params) (map (spelled_function p) fs)) k 0
params_at p [] k count h a b = absurd (omega (arith, h))
params_at p (f ∷ fs) zero count h a b = sym (b ∙ a)
params_at p (f ∷ fs) (suc k) count h a b = params_at p fs k count (omega (arith, h)) a b

has_parameters : (p : Program) (index : ℕ) (f : Function) → IsLawfulFunction p index f → HasItsParameters f
has_parameters p index f w = let n = w.slots in omega (arith, length-take f.params f.slots, n)

-- the names of a program's arrays and functions are all different, also where the functions are spelled
different_back : (p : Program) → IsScoped p → AreDifferent ((globals_back p).arrays ++ (globals_back p).functions)
different_back p w = subst (λ ns. AreDifferent ((globals_back p).arrays ++ ns)) (functions_are p) w.taken_are_different

known_program : (p : Program) (index same : ℕ) (slots : List (List ℕ)) (in_main : Bool) → IsScoped p → index ≤ length p.functions → index ≡ same → Known (record { globals = globals_back p; index = same; in_main = in_main; in_loop = false }) (names_at p index slots) (vocabulary p slots)
known_program p index same slots in_main w h k =
    let g = globals_back p in
    let e = different_back p w in
    record {
      arrays = λ a l. array_named g a e (omega (arith, length-map p.arrays (λ (a : Array). a.name), l));
      functions = λ f count c. (
        ap (λ ns. global_named g (name_of ns f)) (functions_are p) ∙ function_named g f e (let n : length g.functions ≡ length p.functions = ap length (sym (functions_are p)) ∙ length-map p.functions (λ (f : Function). f.name) in omega (arith, n, c.0, h)),
        params_at p p.functions f count (omega (arith, c.0, h)) c.1 (if_so (slice_get p.functions f) (IsLawfulFunction p f) HasItsParameters (has_parameters p f) (w.functions f)),
      );
      index = k;
      untaken = λ x never.
          let all : Contains (g.arrays ++ g.functions) x → ⊥ = λ c. never (subst (λ ns. Contains (g.arrays ++ ns) x) (sym (functions_are p)) c) in
          let a = not_there g.arrays x (λ c. all (contains_left g.arrays g.functions x c)) in
          let b = not_there g.functions x (λ c. all (contains_right g.arrays g.functions x c)) in
          λ j. either (option_map outer.Array (a j)) (option_map outer.Function (b j));
      slots = refl;
    }
  where
    name_of : List (List ℕ) → ℕ → List ℕ
    name_of ns f = slice_index_or ns f []

-- ---- functions

range_back : (n k : ℕ) → Contains (n ∷ range_with_len 0 n) k → Contains (range_with_len 0 (n + 1)) k
range_back n k c = elim (contains_cases n k (range_with_len 0 n) c) [ inl e ↦ in_range (n + 1) k (omega (arith, e)) | inr g ↦ in_range (n + 1) k (let r = range_in n k g in omega (arith, r)) ]

params_none : (here : Setting) (names : Names) (v : Vocabulary) (line : ℕ) → Known here names v → (n : ℕ) (sc : Scope) → Shows names.slots (range_with_len 0 n) [] sc → (xs : List (List ℕ)) → Stand names.slots n xs → ((slot : ℕ) → n ≤ slot → slot < n + length xs → IsNew names (parameters slot) slot) →
    (each_declared_faults here sc line xs ≡ []) × Shows names.slots (range_with_len 0 (n + length xs)) [] (showing_each false sc xs)
params_none here names v line known n sc shows [] k new = (refl, subst (λ q. Shows names.slots (range_with_len 0 q) [] sc) (let e : n ≡ n + 0 = omega arith in e) shows)
params_none here names v line known n sc shows (x ∷ xs) k new =
    let h = fresh_in names (parameters n) n x k.0 (new n (omega arith) (omega arith)) in
    let more = shows_along names.slots (n ∷ range_with_len 0 n) (range_with_len 0 (n + 1)) [] (showing x sc) (range_back n) (range_step n) (shows_free names.slots (range_with_len 0 n) [] sc x n shows h.there h.new) in
    let rest = params_none here names v line known (n + 1) (showing x sc) more xs k.1 (λ slot a b. new slot (omega (arith, a)) (omega (arith, b))) in (
      none_in _ _ (declared_none here names v (range_with_len 0 n) [] sc line n x known shows h) rest.0,
      subst (λ q. Shows names.slots (range_with_len 0 q) [] (showing_each false (showing x sc) xs)) (let e : n + 1 + length xs ≡ n + length (x ∷ xs) = omega arith in e) rest.1,
    )

nothing_shown : (slots : List (List ℕ)) → Shows slots (range_with_len 0 0) [] []
nothing_shown slots = record { sees = λ k c. absurd (omega (arith, c.1)); hides = λ x h. refl }

function_none : (p : Program) (index : ℕ) (f : Function) → IsScoped p → index ≤ length p.functions → IsLawfulFunction p index f → function_faults (record { globals = globals_back p; index = index; in_main = false; in_loop = false }) (spelled_function p f) ≡ []
function_none p index f w h l =
    let here : Setting = record { globals = globals_back p; index = index; in_main = false; in_loop = false } in
    let names = names_at p index f.slots in
    let v = vocabulary p f.slots in
    let known = known_program p index index f.slots false w h refl in
    let params = take f.params f.slots in
    let sl = l.slots in
    let n : length params ≡ f.params = has_parameters p index f l in
    let front = stand_left f.slots 0 params (drop f.params f.slots) (subst (λ k. Stand f.slots 0 k) (sym (take-append-drop f.params f.slots)) (stand_self f.slots)) in
    let ps = params_none here names v f.line known 0 [] (nothing_shown f.slots) params front (λ slot a b. l.parameters_are_new slot (omega (arith, b, n))) in
    let shows = subst (λ q. Shows f.slots (range_with_len 0 q) [] (showing_each false [] params)) (zero-add (length params) ∙ n) ps.1 in
    let ready : Ready here names (parameters f.params) (showing_each false [] params) (declared_in f.body) = record { shows = shows; room = omega (arith, sl); loop = refl } in
    none_in _ _ ps.0 (valued_none here names v (parameters f.params) (showing_each false [] params) f.answer_line known f.body f.answer ready l.body l.answer)

-- ---- programs

or_not : (y x : List ℕ) (b t : Bool) → bytes_eq y x ≡ b → (y ≡ x → ⊥) → t ≡ false → (b || t) ≡ false
or_not y x true t e never h = absurd (never (same_bytes y x e))
or_not y x false t e never h = h

no_has : (xs : List (List ℕ)) (x : List ℕ) (ys : List (List ℕ)) → AreDifferent (xs ++ x ∷ ys) → has xs x ≡ false
no_has [] x ys d = refl
no_has (y ∷ xs) x ys d = or_not y x (bytes_eq y x) (has xs x) refl (λ e. d.0 (subst (λ z. Contains (xs ++ x ∷ ys) z) (sym e) (contains_right xs (x ∷ ys) x (contains_here x x ys refl)))) (no_has xs x ys d.1)

one_further : (names : List (List ℕ)) (x : List ℕ) (rest : List (List ℕ)) → AreDifferent (names ++ x ∷ rest) → AreDifferent ((names ++ x ∷ []) ++ rest)
one_further names x rest d = subst AreDifferent (sym (append_assoc names (x ∷ []) rest)) d

arrays_none : (names : List (List ℕ)) (arrays : List Array) (rest : List (List ℕ)) → AreDifferent (names ++ (map (λ (a : Array). a.name) arrays ++ rest)) → arrays_faults names arrays ≡ []
arrays_none names [] rest d = refl
arrays_none names (a ∷ more) rest d =
    let ns = map (λ (a : Array). a.name) more ++ rest in
    none_in _ _ (ap (λ t. when t Twice a.line) (no_has names a.name ns d)) (arrays_none (names ++ a.name ∷ []) more rest (one_further names a.name ns d))

functions_none : (g : Globals) (names : List (List ℕ)) (k : ℕ) (fs : List RawFunction) → AreDifferent (names ++ map (λ (f : RawFunction). f.name) fs) → ((i : ℕ) → IfSome (slice_get fs i) (λ f. function_faults (record { globals = g; index = k + i; in_main = false; in_loop = false }) f ≡ [])) → functions_faults g names k fs ≡ []
functions_none g names k [] d each = refl
functions_none g names k (f ∷ fs) d each =
    let ns = map (λ (f : RawFunction). f.name) fs in
    let first = subst (λ n. function_faults (record { globals = g; index = n; in_main = false; in_loop = false }) f ≡ []) (let e : k + 0 ≡ k = omega arith in e) (each 0) in
    none_in _ _ (ap (λ t. when t Twice f.line) (no_has names f.name ns d)) (none_in _ _ first
    (functions_none g (names ++ f.name ∷ []) (k + 1) fs (one_further names f.name ns d) (λ i. subst (λ n. IfSome (slice_get fs i) (λ q. function_faults (record { globals = g; index = n; in_main = false; in_loop = false }) q ≡ [])) (let e : k + suc i ≡ k + 1 + i = omega arith in e) (each (suc i)))))

each_none : (p : Program) → IsScoped p → (o : Option Function) (i : ℕ) → slice_get p.functions i ≡ o → IfSome o (IsLawfulFunction p i) → IfSome (option_map (spelled_function p) o) (λ f. function_faults (record { globals = globals_back p; index = i; in_main = false; in_loop = false }) f ≡ [])
each_none p w (Some f) i e h = function_none p i f w (let k = index_inside p.functions i f e in omega (arith, k)) h
each_none p w None i e h = tt

pub spelled_faultless : (main_line : ℕ) (p : Program) → IsScoped p → faults (spelled main_line p) ≡ []
spelled_faultless main_line p w =
    let g = globals_back p in
    let fs = map (spelled_function p) p.functions in
    let n = length p.functions in
    let here : Setting = record { globals = g; index = length fs; in_main = true; in_loop = false } in
    let sl = w.slots in
    let known = known_program p n (length fs) p.slots true w (omega arith) (sym (length-map p.functions (spelled_function p))) in
    let ready : Ready here (names_at p n p.slots) (parameters 0) [] (declared_in p.main) = record { shows = nothing_shown p.slots; room = omega (arith, sl); loop = refl } in
    let d = different_back p w in
    let each : (i : ℕ) → IfSome (slice_get fs i) (λ f. function_faults (record { globals = g; index = 0 + i; in_main = false; in_loop = false }) f ≡ []) = λ i.
    subst (λ k. IfSome (slice_get fs i) (λ f. function_faults (record { globals = g; index = k; in_main = false; in_loop = false }) f ≡ [])) (sym (zero-add i))
    (subst (λ o. IfSome o (λ f. function_faults (record { globals = g; index = i; in_main = false; in_loop = false }) f ≡ [])) (sym (slice_get-map (spelled_function p) p.functions i)) (each_none p w (slice_get p.functions i) i refl (w.functions i))) in
    none_in _ _ (arrays_none [] p.arrays g.functions d) (none_in _ _ (functions_none g g.arrays 0 fs d each) (block_none here (names_at p n p.slots) (vocabulary p p.slots) (parameters 0) [] known p.main ready w.main))
