-- The programs are lawful.
use Rattle.std.proofs.Common.{inl, ℕ, zero, suc, ◌*◌, ◌<◌, ◌≤◌, ◌^◌, Bool, true, false, [], ◌∷◌, refl, arith, rules}
use Rattle.std.specs.Prelude.{◌==◌, if◌then◌else◌, pos, codes, IfSome, slice_get}
use Rattle.std.proofs.lemmas.Nat.{mul-le}
use Rattle.std.proofs.lemmas.List.Elements.{All-nil, All-cons}
use Rattle.spf_ast.specs.Syntax.{Array}
use Rattle.spf_ast.specs.Lawful.{IsNumber, IsLawful, IsLawfulFunction, names_at, nothing_declared, parameters, names_taken, scope_at_end}
use Rattle.spf_apps_programs.specs.Laws.{IsBlockSize, IsMachineCount}
use Rattle.spf_apps_programs.specs.PackBits as packbits
use Rattle.spf_apps_programs.specs.Huffman as huffman
use Rattle.spf_apps_programs.specs.Lexer as lexer
use Rattle.spf_apps_programs.proofs.Scoping.{names-sound, differ-sound, block-sound, sees-sound, parameters-sound, Fit, numbers_in_block}

-- each size and each offset of an array fits
array_fits : (n : ℕ) → n < 2 ^ 63 → IsNumber (pos n)
array_fits n h = (grind arith, grind arith)

at_most : (b : Bool) (x y n : ℕ) → x ≤ n → y ≤ n → (if b then x else y) ≤ n
at_most true x y n h k = h
at_most false x y n h k = k

packbits_numbers : (size : ℕ) → size ≤ 65536 → Fit (numbers_in_block (packbits.packbits_program size).main)
packbits_numbers size h = search rules

pub packbits_lawful : (size : ℕ) → IsBlockSize size → IsLawful (packbits.packbits_program size)
packbits_lawful size h =
    let p = packbits.packbits_program size in
    record {
      scoped = record {
        taken_are_names = names-sound (names_taken p) refl;
        taken_are_different = differ-sound (names_taken p) refl;
        sizes = All-cons (λ (a : Array). IsNumber a.factor × IsNumber a.offset) _ [] (array_fits 1 (omega arith), array_fits size (omega (arith, h.1))) (All-nil _);
        functions = λ offset. tt;
        slots_are_names = names-sound p.slots refl;
        main = block-sound (names_at p 0 p.slots) true nothing_declared p.main refl (packbits_numbers size h.1);
        slots = refl;
        version = inl refl;
      };
      limits = record {
        arrays = omega arith;
        functions = omega arith;
        function_size = λ f. omega arith;
        size = omega arith;
        depth = omega arith;
        slots = omega arith;
      };
    }

bite_lawful : (size : ℕ) → IsLawfulFunction (huffman.huffman_program size) 0 huffman.bite
bite_lawful size =
    let names = names_at (huffman.huffman_program size) 0 huffman.bite.slots in
    record {
      names = names-sound huffman.bite.slots refl;
      parameters_are_new = parameters-sound names 2 refl;
      body = block-sound names false (parameters 2) huffman.bite.body refl bite_numbers;
      answer = sees-sound names (scope_at_end (parameters 2) huffman.bite.body) huffman.bite.answer refl tt;
      slots = refl;
    }
  where
    bite_numbers : Fit (numbers_in_block huffman.bite.body)
    bite_numbers = search rules

look_lawful : (size : ℕ) → IsLawfulFunction (huffman.huffman_program size) 1 huffman.look
look_lawful size =
    let names = names_at (huffman.huffman_program size) 1 huffman.look.slots in
    record {
      names = names-sound huffman.look.slots refl;
      parameters_are_new = parameters-sound names 1 refl;
      body = block-sound names false (parameters 1) huffman.look.body refl look_numbers;
      answer = sees-sound names (scope_at_end (parameters 1) huffman.look.body) huffman.look.answer refl tt;
      slots = refl;
    }
  where
    look_numbers : Fit (numbers_in_block huffman.look.body)
    look_numbers = search rules

huffman_numbers : (size : ℕ) → size ≤ 65536 → Fit (numbers_in_block (huffman.huffman_program size).main)
huffman_numbers size h = search rules

huffman_functions : (size offset : ℕ) → IfSome (slice_get (huffman.bite ∷ huffman.look ∷ []) offset) (IsLawfulFunction (huffman.huffman_program size) offset)
huffman_functions size zero = bite_lawful size
huffman_functions size (suc zero) = look_lawful size
huffman_functions size (suc (suc offset)) = tt

pub huffman_lawful : (size : ℕ) → IsBlockSize size → IsLawful (huffman.huffman_program size)
huffman_lawful size h =
    let p = huffman.huffman_program size in
    let symbols : Array = record { name = codes "sym"; factor = pos 8; offset = pos (8 * size); line = 2 } in
    record {
      scoped = record {
        taken_are_names = names-sound (names_taken p) refl;
        taken_are_different = differ-sound (names_taken p) refl;
        sizes =
            All-cons (λ (a : Array). IsNumber a.factor × IsNumber a.offset) _ (symbols ∷ []) (array_fits 0 (omega arith), array_fits 65536 (omega arith))
            (All-cons (λ (a : Array). IsNumber a.factor × IsNumber a.offset) symbols [] (array_fits 8 (omega arith), array_fits (8 * size) (omega (arith, h.1))) (All-nil _));
        functions = huffman_functions size;
        slots_are_names = names-sound p.slots refl;
        main = block-sound (names_at p 2 p.slots) true nothing_declared p.main refl (huffman_numbers size h.1);
        slots = refl;
        version = inl refl;
      };
      limits = record {
        arrays = omega arith;
        functions = omega arith;
        function_size = λ f. at_most (f == 1) _ _ 65536 (omega arith) (at_most (f == 0) _ _ 65536 (omega arith) (omega arith));
        size = omega arith;
        depth = omega arith;
        slots = omega arith;
      };
    }

lexer_look_lawful : (size classes machine : ℕ) → classes ≤ 64 → machine ≤ 65536 → IsLawfulFunction (lexer.program_for size classes machine) 0 (lexer.look classes machine)
lexer_look_lawful size classes machine h k =
    let f = lexer.look classes machine in
    let names = names_at (lexer.program_for size classes machine) 0 f.slots in
    record {
      names = names-sound f.slots refl;
      parameters_are_new = parameters-sound names 1 refl;
      body = block-sound names false (parameters 1) f.body refl numbers;
      answer = sees-sound names (scope_at_end (parameters 1) f.body) f.answer refl tt;
      slots = refl;
    }
  where
    numbers : Fit (numbers_in_block (lexer.look classes machine).body)
    numbers = search rules

lexer_numbers : (size classes machine : ℕ) → size ≤ 65536 → classes ≤ 64 → machine ≤ 65536 → Fit (numbers_in_block (lexer.program_for size classes machine).main)
lexer_numbers size classes machine h k l = search rules

lexer_functions : (size classes machine offset : ℕ) → classes ≤ 64 → machine ≤ 65536 → IfSome (slice_get (lexer.look classes machine ∷ []) offset) (IsLawfulFunction (lexer.program_for size classes machine) offset)
lexer_functions size classes machine zero h k = lexer_look_lawful size classes machine h k
lexer_functions size classes machine (suc offset) h k = tt

sized_lawful : (size classes machine : ℕ) → IsBlockSize size → classes ≤ 64 → machine ≤ 65536 → IsLawful (lexer.program_for size classes machine)
sized_lawful size classes machine h k l =
    let p = lexer.program_for size classes machine in
    record {
      scoped = record {
        taken_are_names = names-sound (names_taken p) refl;
        taken_are_different = differ-sound (names_taken p) refl;
        sizes = All-cons (λ (a : Array). IsNumber a.factor × IsNumber a.offset) _ [] (array_fits 1 (omega arith), array_fits size (omega (arith, h.1))) (All-nil _);
        functions = λ offset. lexer_functions size classes machine offset k l;
        slots_are_names = names-sound p.slots refl;
        main = block-sound (names_at p 1 p.slots) true nothing_declared p.main refl (lexer_numbers size classes machine h.1 k l);
        slots = refl;
        version = inl refl;
      };
      limits = record {
        arrays = omega arith;
        functions = omega arith;
        function_size = λ f. at_most (f == 0) _ _ 65536 (omega arith) (omega arith);
        size = omega arith;
        depth = omega arith;
        slots = omega arith;
      };
    }

-- the file of a machine isn't long
machine_short : (states classes : ℕ) → states ≤ 64 → classes ≤ 64 → lexer.machine_length states classes ≤ 65536
machine_short states classes h k = omega (arith, mul-le states classes 64 64 h k)

pub lexer_lawful : (size states classes : ℕ) → IsBlockSize size → IsMachineCount states → IsMachineCount classes → IsLawful (lexer.lexer_program size states classes)
lexer_lawful size states classes h s c =
    sized_lawful size classes (lexer.machine_length states classes) h c.1 (machine_short states classes s.1 c.1)
