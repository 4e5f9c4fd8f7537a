-- Arrays, parameters and functions, one after another.
use Rattle.std.proofs.Common.{◌≡◌, ℕ, ◌+◌, ◌<◌, ◌≤◌, zero, suc, Bool, true, false, ◌||◌, not, nat_eq, cond, Option, Some, None, is_some, List, [], ◌∷◌, ◌++◌, length, get_or, take, drop, map, refl, sym, ap, ◌∙◌, arith, append_assoc, length-append}
use Rattle.std.specs.Option.{option_map}
use Rattle.std.specs.Str.{bytes_eq}
use Rattle.std.proofs.lemmas.Bool.Decides.{nat_tests}
use Rattle.spf_types_names.specs.Names.{has, index_in}
use Rattle.std.proofs.lemmas.List.{length-map, map-append, get_or-map, take_more, drop_all}
use Rattle.spf_ast.specs.declared.syntax.Name as code_name
use Rattle.spf_ast.specs.declared.syntax.Array as code_array
use Rattle.spf_ast.specs.declared.syntax.Function as built_function
use Rattle.spf_ast.specs.declared.raw.RawFunction as code_function
use Rattle.spf_ast.specs.RawSyntax as r
use Rattle.spf_ast.specs.Syntax.{Array}
use Rattle.spf_ast.specs.View.{name, array as seen_array, expression, block, function}
use Rattle.spf_ast.specs.RawView.{raw_expression, raw_block, raw_function}
use Rattle.spf_types_names.specs.declared.fault.TypeFault.TheVariants.{Twice}
use Rattle.spf_types_names.specs.declared.globals.Outer.TheVariants as outer
use Rattle.spf_types_names.specs.Globals.{Globals, globals_of, either, global_named, is_array_at, is_function_at}
use Rattle.spf_types_names.specs.Locals.{Local, Seen}
use Rattle.spf_types_names.specs.Faults.{Setting, Fault, when, showing_each, each_declared_faults, arrays_faults, function_faults, functions_faults, valued_faults}
use Rattle.spf_types_names.specs.Resolved.{scope, free, with_each, after_names, names_in, locals_at_end, resolved_expression, resolved_block, resolved_function}
use Rattle.spf_types_size.proofs.Lists.{item_at}
use Rattle.spf_types_names.proofs.Rows.{append_nil}
use Rattle.spf_types_forms.proofs.Blocks.{scope_each-is}
use Rattle.spf_types_names.proofs.Tables.{bytes_are, map_twice, global_named-seen}

-- the first of these names that is this one stands at this index
abbrev pub is_index : Option ℕ → ℕ → Bool
is_index (Some n) index = nat_eq n index
is_index None index = false

shift : (o : Option ℕ) (index : ℕ) → is_index (option_map (λ n. n + 1) o) (suc index) ≡ is_index o index
shift (Some n) index = grind (arith, nat_tests)
shift None index = refl

zero_shift : (o : Option ℕ) → is_index (option_map (λ n. n + 1) o) 0 ≡ false
zero_shift (Some n) = grind (arith, nat_tests)
zero_shift None = refl

-- a name is that of an earlier one exactly where its first index is another
pub is_earlier : (names : List (List ℕ)) (i : ℕ) (x : List ℕ) → i < length names → x ≡ get_or names i x → has (take i names) x ≡ not (is_index (index_in names x) i)
is_earlier [] i x h e = absurd (omega (arith, h))
is_earlier (y ∷ ys) zero x h e = ap (λ b. not (is_index (cond b (Some 0) (option_map (λ n. n + 1) (index_in ys x))) 0)) (sym (ap (λ z. bytes_eq z x) (sym e) ∙ bytes_are x))
is_earlier (y ∷ ys) (suc i) x h e = step (bytes_eq y x) (is_earlier ys i x (omega (arith, h)) e)
  where
    step : (b : Bool) → has (take i ys) x ≡ not (is_index (index_in ys x) i) → (b || has (take i ys) x) ≡ not (is_index (cond b (Some 0) (option_map (λ n. n + 1) (index_in ys x))) (suc i))
    step true k = grind (arith, nat_tests)
    step false k = k ∙ ap not (sym (shift (index_in ys x) i))

has_is : (names : List (List ℕ)) (x : List ℕ) → has names x ≡ is_some (index_in names x)
has_is [] x = refl
has_is (y ∷ ys) x = found_in (bytes_eq y x) (index_in ys x) (has ys x) (has_is ys x)
  where
    found_in : (b : Bool) (o : Option ℕ) (h : Bool) → h ≡ is_some o → (b || h) ≡ is_some (cond b (Some 0) (option_map (λ n. n + 1) o))
    found_in true o h e = refl
    found_in false (Some n) h e = e
    found_in false None h e = e

or_assoc : (a b c : Bool) → ((a || b) || c) ≡ (a || (b || c))
or_assoc true b c = refl
or_assoc false b c = refl

has-append : (xs ys : List (List ℕ)) (x : List ℕ) → has (xs ++ ys) x ≡ (has xs x || has ys x)
has-append [] ys x = refl
has-append (y ∷ xs) ys x = ap (λ b. bytes_eq y x || b) (has-append xs ys x) ∙ sym (or_assoc (bytes_eq y x) (has xs x) (has ys x))

array_index : (o q : Option ℕ) (i : ℕ) → is_array_at (either (option_map outer.Array o) (option_map outer.Function q)) i ≡ is_index o i
array_index (Some n) q i = refl
array_index None (Some n) i = refl
array_index None None i = refl

function_index : (o q : Option ℕ) (i : ℕ) (h : Bool) → h ≡ not (is_index q i) → (is_some o || h) ≡ not (is_function_at (either (option_map outer.Array o) (option_map outer.Function q)) i)
function_index (Some n) q i h e = refl
function_index None (Some n) i h e = e
function_index None None i h e = e

-- ---- arrays

abbrev pub array_name : code_array.Array → List ℕ
array_name a = (seen_array a).name

abbrev pub function_name : code_function.RawFunction → List ℕ
function_name f = (raw_function f).name

pub array_twice : (arrays : List code_array.Array) (functions : List code_function.RawFunction) (g : Globals) (i : ℕ) (a : code_array.Array) → g ≡ globals_of (map seen_array arrays) (map raw_function functions) → i < length arrays → a ≡ get_or arrays i a →
    has (take i (map array_name arrays)) (array_name a) ≡ not (is_array_at (global_named g (array_name a)) i)
array_twice arrays functions g i a e h is =
    let l : i < length (map array_name arrays) = simp length-map h in
    let y : array_name a ≡ get_or (map array_name arrays) i (array_name a) = ap array_name is ∙ sym (get_or-map array_name arrays i a (array_name a) h) in
    is_earlier (map array_name arrays) i (array_name a) l y
    ∙ ap not (sym (array_index (index_in (map array_name arrays) (array_name a)) (index_in (map function_name functions) (array_name a)) i)
    ∙ ap (λ o. is_array_at o i) (global_named-seen arrays functions (array_name a) ∙ ap (λ z. global_named z (array_name a)) (sym e)))

-- the first i arrays were passed without a fault
abbrev pub ArraysBehind : List code_array.Array → ℕ → Type 0
ArraysBehind raw i = arrays_faults [] (map seen_array raw) ≡ arrays_faults (take i (map array_name raw)) (map seen_array (drop i raw))

names_more : {A : Type 0} (f : A → List ℕ) (xs : List A) (i : ℕ) (x : A) → i < length xs → x ≡ get_or xs i x → take (i + 1) (map f xs) ≡ take i (map f xs) ++ f x ∷ []
names_more f xs i x h is =
    let l : i < length (map f xs) = simp length-map h in
    take_more (map f xs) i [] l ∙ ap (λ (z : List ℕ). take i (map f xs) ++ z ∷ []) (get_or-map f xs i x [] h ∙ ap f (sym is))

pub array_behind : (raw : List code_array.Array) (i : ℕ) (a : code_array.Array) → i < length raw → a ≡ get_or raw i a → ArraysBehind raw i → arrays_faults [] (map seen_array raw) ≡ when (has (take i (map array_name raw)) (array_name a)) Twice a.line ++ arrays_faults (take (i + 1) (map array_name raw)) (map seen_array (drop (i + 1) raw))
array_behind raw i a h is so =
    so ∙ ap (λ xs. arrays_faults (take i (map array_name raw)) (map seen_array xs)) (item_at raw i a h is)
    ∙ ap (λ ns. when (has (take i (map array_name raw)) (array_name a)) Twice a.line ++ arrays_faults ns (map seen_array (drop (i + 1) raw))) (sym (names_more array_name raw i a h is))

-- ---- functions

pub function_twice : (arrays : List code_array.Array) (functions : List code_function.RawFunction) (g : Globals) (i : ℕ) (f : code_function.RawFunction) → g ≡ globals_of (map seen_array arrays) (map raw_function functions) → i < length functions → f ≡ get_or functions i f →
    has (g.arrays ++ take i (map function_name functions)) (function_name f) ≡ not (is_function_at (global_named g (function_name f)) i)
function_twice arrays functions g i f e h is =
    let x = function_name f in
    let l : i < length (map function_name functions) = simp length-map h in
    let y : x ≡ get_or (map function_name functions) i x = ap function_name is ∙ sym (get_or-map function_name functions i f x h) in
    has-append g.arrays (take i (map function_name functions)) x
    ∙ ap (λ b. b || has (take i (map function_name functions)) x) (ap (λ (z : Globals). has z.arrays x) e ∙ ap (λ ns. has ns x) (sym (map_twice seen_array (λ (k : Array). k.name) arrays)) ∙ has_is (map array_name arrays) x)
    ∙ function_index (index_in (map array_name arrays) x) (index_in (map function_name functions) x) i (has (take i (map function_name functions)) x) (is_earlier (map function_name functions) i x l y)
    ∙ ap (λ o. not (is_function_at o i)) (global_named-seen arrays functions x ∙ ap (λ z. global_named z x) (sym e))

pub record FunctionsBehind (g : Globals) (raw : List code_function.RawFunction) (done : List built_function.Function) (i : ℕ) : Type 0 where
  pub faults : functions_faults g g.arrays 0 (map raw_function raw) ≡ functions_faults g (g.arrays ++ take i (map function_name raw)) i (map raw_function (drop i raw))
  pub forms : map (resolved_function g) (map raw_function raw) ≡ map function done ++ map (resolved_function g) (map raw_function (drop i raw))

pub function_behind : (g : Globals) (raw : List code_function.RawFunction) (done : List built_function.Function) (i : ℕ) (f : code_function.RawFunction) → i < length raw → f ≡ get_or raw i f → FunctionsBehind g raw done i →
    functions_faults g g.arrays 0 (map raw_function raw) ≡ when (has (g.arrays ++ take i (map function_name raw)) (function_name f)) Twice f.line ++ (function_faults (record { globals = g; index = i; in_main = false; in_loop = false }) (raw_function f) ++ functions_faults g (g.arrays ++ take (i + 1) (map function_name raw)) (i + 1) (map raw_function (drop (i + 1) raw)))
function_behind g raw done i f h is so =
    so.faults ∙ ap (λ xs. functions_faults g (g.arrays ++ take i (map function_name raw)) i (map raw_function xs)) (item_at raw i f h is)
    ∙ ap (λ ns. when (has (g.arrays ++ take i (map function_name raw)) (function_name f)) Twice f.line ++ (function_faults (record { globals = g; index = i; in_main = false; in_loop = false }) (raw_function f) ++ functions_faults g ns (i + 1) (map raw_function (drop (i + 1) raw))))
    (append_assoc g.arrays (take i (map function_name raw)) (function_name f ∷ []) ∙ ap (λ ns. g.arrays ++ ns) (sym (names_more function_name raw i f h is)))

pub one_function : (g : Globals) (raw : List code_function.RawFunction) (done now : List built_function.Function) (i : ℕ) (f : code_function.RawFunction) (b : built_function.Function) → i < length raw → f ≡ get_or raw i f → FunctionsBehind g raw done i →
    has (g.arrays ++ take i (map function_name raw)) (function_name f) ≡ false → function_faults (record { globals = g; index = i; in_main = false; in_loop = false }) (raw_function f) ≡ [] → function b ≡ resolved_function g (raw_function f) → now ≡ done ++ b ∷ [] → FunctionsBehind g raw now (i + 1)
one_function g raw done now i f b h is so new none form push =
    let rest = map (resolved_function g) (map raw_function (drop (i + 1) raw)) in
    let more = functions_faults g (g.arrays ++ take (i + 1) (map function_name raw)) (i + 1) (map raw_function (drop (i + 1) raw)) in
    record {
      faults =
          function_behind g raw done i f h is so
          ∙ ap (λ t. when t Twice f.line ++ (function_faults (record { globals = g; index = i; in_main = false; in_loop = false }) (raw_function f) ++ more)) new
          ∙ ap (λ (fs : List Fault). fs ++ more) none;
      forms =
          so.forms ∙ ap (λ xs. map function done ++ map (resolved_function g) (map raw_function xs)) (item_at raw i f h is)
          ∙ ap (λ z. map function done ++ z ∷ rest) (sym form)
          ∙ sym (append_assoc (map function done) (function b ∷ []) rest)
          ∙ ap (λ fs. fs ++ rest) (sym (map-append function done (b ∷ [])))
          ∙ ap (λ l. map function l ++ rest) (sym push);
    }

pub all_functions : (g : Globals) (raw : List code_function.RawFunction) (done : List built_function.Function) (i : ℕ) → length raw ≤ i → FunctionsBehind g raw done i → (functions_faults g g.arrays 0 (map raw_function raw) ≡ []) × (map function done ≡ map (resolved_function g) (map raw_function raw))
all_functions g raw done i h so =
    let none = drop_all i raw h in (
      so.faults ∙ ap (λ xs. functions_faults g (g.arrays ++ take i (map function_name raw)) i (map raw_function xs)) none,
      sym (so.forms ∙ ap (λ xs. map function done ++ map (resolved_function g) (map raw_function xs)) none ∙ append_nil (map function done)),
    )

pub no_functions : (g : Globals) (raw : List code_function.RawFunction) (done : List built_function.Function) → done ≡ [] → FunctionsBehind g raw done 0
no_functions g raw done e = record {
  faults = ap (λ ns. functions_faults g ns 0 (map raw_function raw)) (sym (append_nil g.arrays));
  forms = ap (λ l. map function l ++ map (resolved_function g) (map raw_function raw)) (sym e);
}

-- ---- one function

-- the locals and slots after the parameters of a function
abbrev pub behind_params : List (List ℕ) → Seen
behind_params names = record { locals = with_each false [] 0 names; slots = names }

pub from_none : (start now : Seen) (names : List (List ℕ)) → start.locals ≡ [] → start.slots ≡ [] → now ≡ after_names start names → now ≡ behind_params names
from_none start now names a b e = e ∙ (λ i. after_names (record { locals = a i; slots = b i }) names)

pub params_none : (here : Setting) (start : Seen) (line : ℕ) (names same : List (List ℕ)) → start.locals ≡ [] → names ≡ same → each_declared_faults here (scope start.locals) line names ≡ [] → each_declared_faults here [] line same ≡ []
params_none here start line names same a e h = (λ i. each_declared_faults here (scope (sym a i)) line (sym e i)) ∙ h

pub valued_is : (here : Setting) (now : Seen) (names : List (List ℕ)) (body : r.RawBlock) (line : ℕ) (value : r.RawExpression) → now ≡ behind_params names → valued_faults here (showing_each false [] names) body line value ≡ valued_faults here (scope now.locals) body line value
valued_is here now names body line value e = ap (λ sc. valued_faults here sc body line value) (sym (scope_each-is false [] 0 names) ∙ ap (λ (z : Seen). scope z.locals) (sym e))

pub function_form : (g : Globals) (now : Seen) (raw : code_function.RawFunction) (built : built_function.Function) → now ≡ behind_params (map name raw.params.items) → name built.name ≡ name raw.name → built.params ≡ length (map name raw.params.items) → map name built.slots.items ≡ now.slots ++ names_in (raw_block raw.body.items) →
    block built.body.items ≡ resolved_block g now.locals (length now.slots) (raw_block raw.body.items) → expression built.answer ≡ resolved_expression g (locals_at_end now.locals (length now.slots) (raw_block raw.body.items)) (raw_expression raw.answer) → built.answer_line ≡ raw.answer_line → built.line ≡ raw.line →
    function built ≡ resolved_function g (raw_function raw)
function_form g now raw built e n p sl b a al li =
    let names = map name raw.params.items in
    (λ i. record {
      name = n i;
      params = p i;
      slots = (sl ∙ ap (λ (z : Seen). z.slots ++ names_in (raw_block raw.body.items)) e) i;
      body = (b ∙ ap (λ (z : Seen). resolved_block g z.locals (length z.slots) (raw_block raw.body.items)) e) i;
      answer = (a ∙ ap (λ (z : Seen). resolved_expression g (locals_at_end z.locals (length z.slots) (raw_block raw.body.items)) (raw_expression raw.answer)) e) i;
      answer_line = al i;
      line = li i;
    })
