-- Arrays, functions and programs, as the grammar reads their lexemes.
use Rattle.std.proofs.Common.{◌≡◌, ℕ, zero, suc, ◌≤◌, Bool, true, false, inl, inr, nat_eq, List, [], ◌∷◌, ◌++◌, length, map, get_or, refl, ap, sym, subst, ◌∙◌, arith, ℤ, pos, negsuc}
use Rattle.spf_text.specs.declared.token.Keyword.TheVariants as word
use Rattle.spf_text.specs.declared.token.Sign.TheVariants as sign
use Rattle.spf_text.specs.declared.token.TokenKind.TheVariants as kind
use Rattle.spf_text.specs.Tokens.{Piece, sign_spelling, word_spelling}
use Rattle.spf_ast.specs.Syntax.{Array}
use Rattle.spf_ast.specs.RawSyntax.{RawBlock, RawFunction, RawProgram}
use Rattle.spf_print_forms.specs.Canonical.{deeper}
use Rattle.spf_parse_grammar.specs.Lexemes.{Lexeme}
use Rattle.spf_parse_grammar.specs.Parts.{token, opens, name as name_part, many, header, size, array, parameters, next_parameter, function, program}
use Rattle.spf_parse_grammar.specs.Rules.{block_of, has_breaks}
use Rattle.std.specs.Prelude.{◌⊎◌}
use Rattle.std.specs.List.{All, AllByRecursion}
use Rattle.std.proofs.lemmas.List.Elements.{recursion_from_All}
use Rattle.spf_ast.specs.Spelling.{holds_break, HoldRows, IsWritable, IsWritableFunction}
use Rattle.spf_print_laws.specs.Laws.{block_without_lines, array_without_lines, function_without_lines, program_without_lines}
use Rattle.spf_print_laws.proofs.Pieces.{w, s, name, number, space, on_own_line, word_line, opening, closing, of_block, of_size, array_line, of_array, of_names, of_further_names, function_line, of_function, of_arrays, of_functions, of_main, header_line, of_header, count, of_program}
use Rattle.spf_print_laws.proofs.Lexing.{Takes, takes-append, takes-line, Said, done, andthen, first_of, second_of, by_rule, Step, token_step, opens_step, name_step, number_step}
use Rattle.spf_print_laws.proofs.Levels.{done_at}
use Rattle.spf_print_laws.proofs.Statements.{Allows, put_all, Worded, ends-worded, Answered, answered, Braced, closed_block}

-- ---- arrays

size_len : (free : ℕ) (f : ℤ) (ps : List Piece) (ts us : List Lexeme) → length ts ≤ free → Takes (number f ∷ s sign.Star ∷ w word.Len ∷ ps) ts us → Step free size ps ts us (f, pos 0)
size_len free f ps ts us room t =
    let x = number_step free f _ (s sign.Star ∷ w word.Len ∷ ps) ts us room t in
    let a = token_step free (kind.Sign sign.Star) (sign_spelling sign.Star) (w word.Len ∷ ps) x.rest us x.room x.behind in
    let b = token_step free (kind.Keyword word.Len) (word_spelling word.Len) ps a.rest us a.room a.behind in
    record { rest = b.rest; said = by_rule free size ts (f, pos 0) b.rest (andthen x.said (second_of (andthen a.said (andthen b.said (first_of done))))); behind = b.behind; room = b.room }

size_both : (free : ℕ) (f o : ℤ) (ps : List Piece) (ts us : List Lexeme) → length ts ≤ free → Takes (number f ∷ s sign.Star ∷ w word.Len ∷ space ∷ s sign.Plus ∷ space ∷ number o ∷ ps) ts us → Step free size ps ts us (f, o)
size_both free f o ps ts us room t =
    let x = number_step free f _ (s sign.Star ∷ w word.Len ∷ space ∷ s sign.Plus ∷ space ∷ number o ∷ ps) ts us room t in
    let a = token_step free (kind.Sign sign.Star) (sign_spelling sign.Star) (w word.Len ∷ space ∷ s sign.Plus ∷ space ∷ number o ∷ ps) x.rest us x.room x.behind in
    let b = token_step free (kind.Keyword word.Len) (word_spelling word.Len) (space ∷ s sign.Plus ∷ space ∷ number o ∷ ps) a.rest us a.room a.behind in
    let c = token_step free (kind.Sign sign.Plus) (sign_spelling sign.Plus) (space ∷ number o ∷ ps) b.rest us b.room b.behind in
    let d = number_step free o _ ps c.rest us c.room c.behind in
    record { rest = d.rest; said = by_rule free size ts (f, o) d.rest (andthen x.said (second_of (andthen a.said (andthen b.said (second_of (andthen c.said (andthen d.said done))))))); behind = d.behind; room = d.room }

size_step : (free : ℕ) (f o : ℤ) (ps : List Piece) (ts us : List Lexeme) → length ts ≤ free → Takes (of_size f o ++ ps) ts us → Step free size ps ts us (f, o)
size_step free (pos zero) o ps ts us room t =
    let x = number_step free o _ ps ts us room t in
    record { rest = x.rest; said = by_rule free size ts (pos zero, o) x.rest (andthen x.said (first_of done)); behind = x.behind; room = x.room }
size_step free (pos (suc m)) (pos zero) ps ts us room t = size_len free (pos (suc m)) ps ts us room t
size_step free (negsuc m) (pos zero) ps ts us room t = size_len free (negsuc m) ps ts us room t
size_step free (pos (suc m)) (pos (suc k)) ps ts us room t = size_both free (pos (suc m)) (pos (suc k)) ps ts us room t
size_step free (pos (suc m)) (negsuc k) ps ts us room t = size_both free (pos (suc m)) (negsuc k) ps ts us room t
size_step free (negsuc m) (pos (suc k)) ps ts us room t = size_both free (negsuc m) (pos (suc k)) ps ts us room t
size_step free (negsuc m) (negsuc k) ps ts us room t = size_both free (negsuc m) (negsuc k) ps ts us room t

record ArrayPut (free : ℕ) (a : Array) (ts us : List Lexeme) : Type 0 where
  pub found : Array
  pub said : Said free array ts found us
  pub same : array_without_lines found ≡ array_without_lines a

array_put : (free : ℕ) (a : Array) (ts us : List Lexeme) → length ts ≤ free → Takes (of_array a) ts us → ArrayPut free a ts us
array_put free a ts us room t =
    let k = token_step free (kind.Keyword word.Array) (word_spelling word.Array) (space ∷ name a.name ∷ s sign.OpenBracket ∷ (of_size a.factor a.offset ++ s sign.CloseBracket ∷ s sign.Semicolon ∷ [])) ts us room (takes-line [] (array_line a) ts us t) in
    let x = name_step free a.name (s sign.OpenBracket ∷ (of_size a.factor a.offset ++ s sign.CloseBracket ∷ s sign.Semicolon ∷ [])) k.rest us k.room k.behind in
    let o = opens_step free 0 sign.OpenBracket (sign_spelling sign.OpenBracket) (of_size a.factor a.offset ++ s sign.CloseBracket ∷ s sign.Semicolon ∷ []) x.rest us x.room x.behind in
    let z = size_step free a.factor a.offset (s sign.CloseBracket ∷ s sign.Semicolon ∷ []) o.rest us o.room o.behind in
    let c = token_step free (kind.Sign sign.CloseBracket) (sign_spelling sign.CloseBracket) (s sign.Semicolon ∷ []) z.rest us z.room z.behind in
    let d = token_step free (kind.Sign sign.Semicolon) (sign_spelling sign.Semicolon) [] c.rest us c.room c.behind in
    record {
      found = record { name = a.name; factor = a.factor; offset = a.offset; line = k.line };
      said = by_rule free array ts (record { name = a.name; factor = a.factor; offset = a.offset; line = k.line }) us (andthen k.said (andthen x.said (andthen o.said (andthen z.said (andthen c.said (andthen d.said (done_at d.behind)))))));
      same = refl;
    }

record ArraysPut (free : ℕ) (as_ : List Array) (ts us : List Lexeme) : Type 0 where
  pub found : List Array
  pub said : Said free (many array) ts found us
  pub same : map array_without_lines found ≡ map array_without_lines as_

arrays_put : (free : ℕ) (as_ : List Array) (ts us : List Lexeme) → length ts ≤ free → Takes (of_arrays as_) ts us → ArraysPut free as_ ts us
arrays_put free [] ts us room t = record { found = []; said = by_rule free (many array) ts [] us (first_of (done_at t)); same = refl }
arrays_put free (a ∷ rest) ts us room t =
    let m = takes-append (of_array a) (of_arrays rest) ts us t in
    let x = array_put free a ts m.0 room m.1 in
    let more = arrays_put free rest m.0 us (omega (arith, room, x.said.less)) m.2 in
    record {
      found = x.found ∷ more.found;
      said = by_rule free (many array) ts (x.found ∷ more.found) us (second_of (andthen x.said (andthen more.said done)));
      same = ap (λ y. y ∷ map array_without_lines more.found) x.same ∙ ap (λ ys. array_without_lines a ∷ ys) more.same;
    }

-- ---- functions

further_names : (free : ℕ) (xs : List (List ℕ)) (ts us : List Lexeme) → length ts ≤ free → Takes (of_further_names xs) ts us → Said free (many next_parameter) ts xs us
further_names free [] ts us room t = by_rule free (many next_parameter) ts [] us (first_of (done_at t))
further_names free (x ∷ xs) ts us room t =
    let c = token_step free (kind.Sign sign.Comma) (sign_spelling sign.Comma) (space ∷ name x ∷ of_further_names xs) ts us room t in
    let y = name_step free x (of_further_names xs) c.rest us c.room c.behind in
    let more = further_names free xs y.rest us y.room y.behind in
    let one = by_rule free next_parameter ts x y.rest (andthen c.said (andthen y.said done)) in
    by_rule free (many next_parameter) ts (x ∷ xs) us (second_of (andthen one (andthen more done)))

parameters_step : (free : ℕ) (xs : List (List ℕ)) (ps : List Piece) (ts us : List Lexeme) → length ts ≤ free → Takes (of_names xs ++ s sign.CloseParen ∷ ps) ts us → Step free parameters ps ts us xs
parameters_step free [] ps ts us room t =
    let c = token_step free (kind.Sign sign.CloseParen) (sign_spelling sign.CloseParen) ps ts us room t in
    record { rest = c.rest; said = by_rule free parameters ts [] c.rest (first_of (andthen c.said done)); behind = c.behind; room = c.room }
parameters_step free (x ∷ xs) ps ts us room t =
    let y = name_step free x (of_further_names xs ++ s sign.CloseParen ∷ ps) ts us room t in
    let m = takes-append (of_further_names xs) (s sign.CloseParen ∷ ps) y.rest us y.behind in
    let more = further_names free xs y.rest m.0 y.room m.1 in
    let c = token_step free (kind.Sign sign.CloseParen) (sign_spelling sign.CloseParen) ps m.0 us (omega (arith, y.room, more.less)) m.2 in
    record { rest = c.rest; said = by_rule free parameters ts (x ∷ xs) c.rest (second_of (andthen y.said (andthen more (andthen c.said done)))); behind = c.behind; room = c.room }

record FunctionPut (free : ℕ) (breaks : Bool) (f : RawFunction) (ts us : List Lexeme) : Type 0 where
  pub found : RawFunction
  pub said : Said free (function breaks) ts found us
  pub same : function_without_lines found ≡ function_without_lines f

-- the line of a function, to its opening brace
record Headed (free : ℕ) (f : RawFunction) (ts us : List Lexeme) : Type 0 where
  pub line : ℕ
  pub mid : List Lexeme
  pub word_said : Said free (token (kind.Keyword word.Fn)) ts line mid
  pub named : Step free name_part (s sign.OpenParen ∷ (of_names f.params ++ s sign.CloseParen ∷ opening)) mid us f.name
  pub opened : Step free (opens 0 sign.OpenParen) (of_names f.params ++ s sign.CloseParen ∷ opening) named.rest us tt
  pub names : Step free parameters opening opened.rest us f.params

headed : (free : ℕ) (f : RawFunction) (ts us : List Lexeme) → length ts ≤ free → Takes (function_line f) ts us → Headed free f ts us
headed free f ts us room t =
    let k = token_step free (kind.Keyword word.Fn) (word_spelling word.Fn) (space ∷ name f.name ∷ s sign.OpenParen ∷ (of_names f.params ++ s sign.CloseParen ∷ opening)) ts us room t in
    let x = name_step free f.name (s sign.OpenParen ∷ (of_names f.params ++ s sign.CloseParen ∷ opening)) k.rest us k.room k.behind in
    let o = opens_step free 0 sign.OpenParen (sign_spelling sign.OpenParen) (of_names f.params ++ s sign.CloseParen ∷ opening) x.rest us x.room x.behind in
    record { line = k.line; mid = k.rest; word_said = k.said; named = x; opened = o; names = parameters_step free f.params opening o.rest us o.room o.behind }

function_whole : (free : ℕ) (breaks : Bool) (f : RawFunction) (ts ms us : List Lexeme) (x : Headed free f ts ms) (v : Answered free breaks 0 f.body (Worded free 1 word.Return f.answer) x.names.rest us) → FunctionPut free breaks f ts us
function_whole free breaks f ts ms us x v = record {
  found = record { name = f.name; params = f.params; body = block_of v.inside.found; answer = f.answer; answer_line = v.answer.line; line = x.line };
  said = by_rule free (function breaks) ts (record { name = f.name; params = f.params; body = block_of v.inside.found; answer = f.answer; answer_line = v.answer.line; line = x.line }) us (andthen x.word_said (andthen x.named.said (andthen x.opened.said (andthen x.names.said (andthen v.open_said (andthen v.inside.said (andthen v.answer.word_said (andthen v.answer.last_said.value (andthen v.answer.last_said.semicolon (andthen v.close_said done))))))))));
  same = ap (λ b. record { name = f.name; params = f.params; body = b; answer = f.answer; answer_line = 0; line = 0 }) v.inside.same;
}

function_put : (free : ℕ) (breaks : Bool) (f : RawFunction) → IsWritableFunction f → HoldRows f.body → Allows breaks (holds_break f.body) → (ts us : List Lexeme) → length ts ≤ free → Takes (of_function f) ts us → FunctionPut free breaks f ts us
function_put free breaks f can rows allows ts us room t =
    let m = takes-append (on_own_line [] (function_line f)) (of_block (deeper []) f.body ++ (on_own_line (deeper []) (word_line word.Return f.answer) ++ closing [])) ts us t in
    let x = headed free f ts m.0 room (takes-line [] (function_line f) ts m.0 m.1) in
    function_whole free breaks f ts m.0 us x
    (answered free breaks 0 f.body (Worded free 1 word.Return f.answer) (word_line word.Return f.answer) allows (put_all free f.body can.2 rows) [] (ends-worded free 1 word.Return f.answer (deeper [])) x.names.rest m.0 us x.names.room x.names.behind m.2)

record FunctionsPut (free : ℕ) (breaks : Bool) (fs : List RawFunction) (ts us : List Lexeme) : Type 0 where
  pub found : List RawFunction
  pub said : Said free (many (function breaks)) ts found us
  pub same : map function_without_lines found ≡ map function_without_lines fs

-- a function can be written, and holds a `break` only where it is a statement
abbrev CanStand : Bool → RawFunction → Type 0
CanStand breaks f = IsWritableFunction f × HoldRows f.body × Allows breaks (holds_break f.body)

functions_put : (free : ℕ) (breaks : Bool) (fs : List RawFunction) → AllByRecursion (CanStand breaks) fs → (ts us : List Lexeme) → length ts ≤ free → Takes (of_functions fs) ts us → FunctionsPut free breaks fs ts us
functions_put free breaks [] can ts us room t = record { found = []; said = by_rule free (many (function breaks)) ts [] us (first_of (done_at t)); same = refl }
functions_put free breaks (f ∷ rest) can ts us room t =
    let m = takes-append (of_function f) (of_functions rest) ts us t in
    let x = function_put free breaks f can.0.0 can.0.1 can.0.2 ts m.0 room m.1 in
    let more = functions_put free breaks rest can.1 m.0 us (omega (arith, room, x.said.less)) m.2 in
    record {
      found = x.found ∷ more.found;
      said = by_rule free (many (function breaks)) ts (x.found ∷ more.found) us (second_of (andthen x.said (andthen more.said done)));
      same = ap (λ y. y ∷ map function_without_lines more.found) x.same ∙ ap (λ ys. function_without_lines f ∷ ys) more.same;
    }

-- ---- programs

-- the header of a version, or none
header_step : (free version : ℕ) → (version ≡ 1) ⊎ (version ≡ 2) → (ts us : List Lexeme) → length ts ≤ free → Takes (of_header version) ts us → Said free header ts version us
header_step free version (inl e) ts us room t =
    subst (λ v. Said free header ts v us) (sym e) (by_rule free header ts 1 us (first_of (done_at (subst (λ v. Takes (of_header v) ts us) e t))))
header_step free version (inr e) ts us room t =
    let taken : Takes (on_own_line [] header_line) ts us = subst (λ v. Takes (of_header v) ts us) e t in
    let k = token_step free (kind.Keyword word.Version) (word_spelling word.Version) (space ∷ count 2 ∷ s sign.Semicolon ∷ []) ts us room (takes-line [] header_line ts us taken) in
    let x = token_step free (kind.Number (pos 2)) _ (s sign.Semicolon ∷ []) k.rest us k.room k.behind in
    let c = token_step free (kind.Sign sign.Semicolon) (sign_spelling sign.Semicolon) [] x.rest us x.room x.behind in
    subst (λ v. Said free header ts v us) (sym e) (by_rule free header ts 2 us (second_of (andthen k.said (second_of (andthen x.said (andthen c.said (done_at c.behind)))))))

-- where a version has `break`, each block may hold one
allows_by : (version : ℕ) (has : Bool) → (version ≡ 1) ⊎ (version ≡ 2) → (version ≡ 1 → has ≡ false) → Allows (has_breaks version) has
allows_by version has (inl e) none h = let f : false ≡ true = sym (none e) ∙ h in absurd cc
allows_by version has (inr e) none h = subst (λ v. has_breaks v ≡ true) (sym e) refl

-- a program without lines, of its parts
program_of : ℕ → List Array → List RawFunction → RawBlock → RawProgram
program_of version arrays functions main = record { version = version; arrays = arrays; functions = functions; main = main; main_line = 0 }

-- a program is read
pub record ProgramPut (free : ℕ) (p : RawProgram) (ts us : List Lexeme) : Type 0 where
  pub found : RawProgram
  pub said : Said free program ts found us
  pub same : program_without_lines found ≡ program_without_lines p

program_whole : (free line : ℕ) (p : RawProgram) (ts hs ms ks ls us : List Lexeme) → Said free header ts p.version hs → (x : ArraysPut free p.arrays hs ms) (y : FunctionsPut free (has_breaks p.version) p.functions ms ks) → Said free (token (kind.Keyword word.Main)) ks line ls → (v : Braced free (has_breaks p.version) 0 p.main ls us) → ProgramPut free p ts us
unfolding program_of
program_whole free line p ts hs ms ks ls us h x y k v = record {
  found = record { version = p.version; arrays = x.found; functions = y.found; main = v.found; main_line = line };
  said = by_rule free program ts (record { version = p.version; arrays = x.found; functions = y.found; main = v.found; main_line = line }) us (andthen h (andthen x.said (andthen y.said (andthen k (andthen v.said done)))));
  same = ap (λ a. program_of p.version a (map function_without_lines y.found) (block_without_lines v.found)) x.same ∙ ap (λ f. program_of p.version (map array_without_lines p.arrays) f (block_without_lines v.found)) y.same ∙ ap (program_of p.version (map array_without_lines p.arrays) (map function_without_lines p.functions)) v.same;
}

pub program_put : (free : ℕ) (p : RawProgram) → IsWritable p → (ts us : List Lexeme) → length ts ≤ free → Takes (of_program p) ts us → ProgramPut free p ts us
program_put free p can ts us room t =
    let breaks = has_breaks p.version in
    let b = takes-append (of_header p.version) (of_arrays p.arrays ++ (of_functions p.functions ++ of_main p.main)) ts us t in
    let h = header_step free p.version can.well_formed.version ts b.0 room b.1 in
    let m = takes-append (of_arrays p.arrays) (of_functions p.functions ++ of_main p.main) b.0 us b.2 in
    let x = arrays_put free p.arrays b.0 m.0 (omega (arith, room, h.less)) m.1 in
    let j = takes-append (of_functions p.functions) (of_main p.main) m.0 us m.2 in
    let each : All (CanStand breaks) p.functions = λ i d q. (can.well_formed.functions i d q, can.functions i d q, allows_by p.version (holds_break (get_or p.functions i d).body) can.well_formed.version (λ e. can.well_formed.breaks.functions e i d q)) in
    let y = functions_put free breaks p.functions (recursion_from_All (CanStand breaks) p.functions each) m.0 j.0 (omega (arith, room, h.less, x.said.less)) j.1 in
    let i = takes-append (on_own_line [] (w word.Main ∷ opening)) (of_block (deeper []) p.main ++ closing []) j.0 us j.2 in
    let k = token_step free (kind.Keyword word.Main) (word_spelling word.Main) opening j.0 i.0 (omega (arith, room, h.less, x.said.less, y.said.less)) (takes-line [] (w word.Main ∷ opening) j.0 i.0 i.1) in
    let v = closed_block free breaks 0 p.main (allows_by p.version (holds_break p.main) can.well_formed.version can.well_formed.breaks.main) (put_all free p.main can.well_formed.main can.main) [] k.rest i.0 us k.room k.behind i.2 in
    program_whole free k.line p ts b.0 m.0 j.0 k.rest us h x y k.said v
