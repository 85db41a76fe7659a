-- The definitions, tried: name lists and texts with what is said of them, all computed. The problem is document 01's bytes of
-- four nodes, 0 a variable of 8 bits whose lowest is fixed at 1, 1 a variable of 1 bit, 2 the constant 5, 3 whether 0 and 2 are
-- equal; its roots are 3 and 1.
use Rattle.std.specs.Prelude.{Bool, true, ◌&&◌, List, [], ◌∷◌, ◌++◌, ℕ, ◌+◌, ◌*◌, T, eqb, replicate}
use Prim.Native.String.{String}
use Rattle.texts.specs.Runs.{ascii, is_lower, is_one_of, is_symbol_byte, is_white, is_in, length_of_run, equal}
use Rattle.texts.specs.Numbers.{digit_of, all_in, digits_in, value_from, value_in}
use Rattle.problem.specs.Layout.{node_of, node_at, width_at, root_at, le16, le32, le64}
use Rattle.problem.specs.Refusals.{bit_outside}
use Rattle.nodes.specs.Problem.{problem, zeros, three, spot_of, value_of, eval_up, evaluate}
use Rattle.models.specs.declared.Judged.{Judged}
use Rattle.models.specs.declared.Judged.TheVariants.{Yes, No, Refused}
use Rattle.entries.specs.Pieces.{chop}
use Rattle.entries.specs.Tokens.{piece_length, is_gap, token_at, tokens}
use Rattle.entries.specs.Names.{is_barred, inside, line_length, names, position, is_again, some, is_simple, is_quoted, is_name}
use Rattle.entries.specs.Entries.{is_numeral, up_to64, width_said, base_of, literal_width, is_decimal, fits, matches, heading, literal, decimal, entry_size, no_entry, value_width, value_said, entry_of, body, step_over, entries_in, left_in, is_model, entries, misfits}
use Rattle.models.specs.Judgement.{refuse, ◌next◌, first_said, variables_below, variables, list_wrong, unknown_at, again_at, misfit_at, absent_at, assigned_up, assigned, contradicted_at, zero_at, judged_entries, judged_text}

-- a number below 256 in so many bytes more than one
abbrev small : ℕ → ℕ → List ℕ
small more x = x ∷ replicate more 0

abbrev node : ℕ → ℕ → ℕ → ℕ → ℕ → ℕ → List ℕ
node kind width a b lo hi = kind ∷ width ∷ small 1 a ++ small 1 b ++ small 1 0 ++ small 7 lo ++ small 7 hi

abbrev pub four : List ℕ
four =
    ascii "TBV" ++ small 1 1 ++ small 1 4 ++ small 1 2
    ++ node 0 8 0 0 1 255 ++ node 0 1 0 0 0 1 ++ node 1 8 0 0 5 5 ++ node 9 1 0 2 0 0
    ++ small 1 3 ++ small 1 1

-- 0 for yes, 1 + j for root j, 1,000 times the number and the place for a refusal
abbrev pub told_as : Judged → ℕ
told_as Yes = 0
told_as (No j) = 1 + j
told_as (Refused f) = 1000 * f.number + f.place

unfoldable pub right : List (String × String × ℕ) → Bool
right [] = true
right (r ∷ rs) = eqb (told_as (judged_text four (ascii r.0) (ascii r.1))) r.2 && right rs

abbrev pub table : List (String × String × ℕ)
table =
    ("x\ny z\n", "((define-fun x () (_ BitVec 8) #x05)(define-fun |y z| () (_ BitVec 1) #b1))", 0)
    ∷ ("x\ny z\n", "(model\n (define-fun x () (_ BitVec 8) #x05)\n (define-fun |y z| () (_ BitVec 1) #b1)\n)\n", 0)
    ∷ ("x\ny z", "((define-fun |y z| () (_ BitVec 1) #b1)(define-fun x () (_ BitVec 8) #x05))", 0)
    ∷ ("|x|\n|y z|", " ( ; sat (\r(define-fun x () (_ BitVec 8) #x05)\t(define-fun |y z| () (_ BitVec 1) #b1) ) ; end", 0)
    ∷ ("x\ny z\n", "((define-fun x () (_ BitVec 8) (_ bv5 8))(define-fun |y z| () (_ BitVec 1) (_ bv1 1)))", 0)
    ∷ ("x\ny z\n", "((define-fun |x| () (_ BitVec 8) #b00000101)(define-fun |y z| () (_ BitVec 1) #b1))", 0)
    ∷ ("x\ny z\n", "((define-fun x () (_ BitVec 8) #b00000111)(define-fun |y z| () (_ BitVec 1) #b1))", 1)
    ∷ ("x\ny z\n", "((define-fun x () (_ BitVec 8) #x05)(define-fun |y z| () (_ BitVec 1) #b0))", 2)
    ∷ ("x\ny z\n", "((define-fun x () (_ BitVec 8) #xfF)(define-fun |y z| () (_ BitVec 1) #b0))", 1)
    ∷ ("x\n", "", 30000)
    ∷ ("", "", 30000)
    ∷ ("x\ny z\n\n", "", 30000)
    ∷ ("x\ny\nz", "", 30000)
    ∷ ("x\nx\n", "", 30000)
    ∷ ("x\n|x|\n", "()", 30000)
    ∷ ("\n", "()", 30000)
    ∷ ("x\ny z\n", "", 31000)
    ∷ ("x\ny z\n", "sat", 31000)
    ∷ ("x\ny z\n", "(", 31000)
    ∷ ("x\ny z\n", ")", 31000)
    ∷ ("x\ny z\n", "(model", 31000)
    ∷ ("x\ny z\n", "(models)", 31000)
    ∷ ("x\ny z\n", "sat ((define-fun x () (_ BitVec 8) #x05)(define-fun |y z| () (_ BitVec 1) #b1))", 31000)
    ∷ ("x\ny z\n", "((define-fun x () (_ BitVec 8) #x05)(define-fun |y z| () (_ BitVec 1) #b1)) x", 31000)
    ∷ ("x\ny z\n", "((define-fun x () (_ BitVec 8) #x05)(define-fun |y z| () (_ BitVec 1) #b1)))", 31000)
    ∷ ("x\ny z\n", "((define-fun x () (_ BitVec 8) #x05)(define-fun |y z| () (_ BitVec 1) #b1)", 31000)
    ∷ ("x\ny z\n", "(Model (define-fun x () (_ BitVec 8) #x05)(define-fun |y z| () (_ BitVec 1) #b1))", 31000)
    ∷ ("x\ny z\n", "(|model| (define-fun x () (_ BitVec 8) #x05)(define-fun |y z| () (_ BitVec 1) #b1))", 31000)
    ∷ ("x\ny z\n", "(model model)", 31000)
    ∷ ("x\ny z\n", "\u{b}()", 31000)
    ∷ ("x\ny z\n", "((define-fun 8x () (_ BitVec 8) #x05))", 31000)
    ∷ ("x\ny z\n", "((define-fun #x () (_ BitVec 8) #x05))", 31000)
    ∷ ("x\ny z\n", "((define-fun |x () (_ BitVec 8) #x05))", 31000)
    ∷ ("x\ny z\n", "((define-fun |x\\| () (_ BitVec 8) #x05))", 31000)
    ∷ ("x\ny z\n", "((define-fun \"x\" () (_ BitVec 8) #x05))", 31000)
    ∷ ("x\ny z\n", "((define-fun () () (_ BitVec 8) #x05))", 31000)
    ∷ ("x\ny z\n", "((define-fun x|y| () (_ BitVec 8) #x05))", 31000)
    ∷ ("x\ny z\n", "((define-fun x () (_ BitVec 0) #x05))", 31000)
    ∷ ("x\ny z\n", "((define-fun x () (_ BitVec 65) #x05))", 31000)
    ∷ ("x\ny z\n", "((define-fun x () (_ BitVec 08) #x05))", 31000)
    ∷ ("x\ny z\n", "((define-fun x () (_ BitVec |8|) #x05))", 31000)
    ∷ ("x\ny z\n", "((define-fun x () (_ BitVec 18446744073709551624) #x05))", 31000)
    ∷ ("x\ny z\n", "((define-fun x () (_ BitVec 8) #b))", 31000)
    ∷ ("x\ny z\n", "((define-fun x () (_ BitVec 8) #x))", 31000)
    ∷ ("x\ny z\n", "((define-fun x () (_ BitVec 8) #b012))", 31000)
    ∷ ("x\ny z\n", "((define-fun x () (_ BitVec 8) #x0g))", 31000)
    ∷ ("x\ny z\n", "((define-fun x () (_ BitVec 8) 5))", 31000)
    ∷ ("x\ny z\n", "((define-fun x () (_ BitVec 8) #B00000101))", 31000)
    ∷ ("x\ny z\n", "((define-fun x () (_ BitVec 8) #X05))", 31000)
    ∷ ("x\ny z\n", "((define-fun x () (_ BitVec 8) #b00000000000000000000000000000000000000000000000000000000000000000))", 31000)
    ∷ ("x\ny z\n", "((define-fun x () (_ BitVec 8) #x00000000000000000))", 31000)
    ∷ ("x\ny z\n", "((define-fun x () (_ BitVec 8) (_ bv5 0)))", 31000)
    ∷ ("x\ny z\n", "((define-fun x () (_ BitVec 8) (_ bv5 65)))", 31000)
    ∷ ("x\ny z\n", "((define-fun x () (_ BitVec 8) (_ bv05 8)))", 31000)
    ∷ ("x\ny z\n", "((define-fun x () (_ BitVec 8) (_ bv 8)))", 31000)
    ∷ ("x\ny z\n", "((define-fun x () (_ BitVec 8) (_ |bv5| 8)))", 31000)
    ∷ ("x\ny z\n", "((define-fun x () (_ BitVec 8) (_ bv5 08)))", 31000)
    ∷ ("x\ny z\n", "((define-fun x () (_ BitVec 8) (_ BV5 8)))", 31000)
    ∷ ("x\ny z\n", "((define-fun x (y) (_ BitVec 8) #x05))", 31000)
    ∷ ("x\ny z\n", "((define-fun x () (_ bitvec 8) #x05))", 31000)
    ∷ ("x\ny z\n", "((define-fun x () Bool true))", 31000)
    ∷ ("x\ny z\n", "((declare-fun x () (_ BitVec 8)))", 31000)
    ∷ ("x\ny z\n", "((define-const x (_ BitVec 8) #x05))", 31000)
    ∷ ("x\ny z\n", "((define-fun x ( ) (_ BitVec 8) #x05 #x05))", 31000)
    ∷ ("x\ny z\n", "((define-fun x () (_ BitVec 8) #x05;))", 31000)
    ∷ ("x\ny z\n", "((define-fun w () (_ BitVec 8) #x05)))", 31000)
    ∷ ("x\ny z\n", "()", 35000)
    ∷ ("x\ny z\n", "(model)", 35000)
    ∷ ("x\ny z\n", "((define-fun x () (_ BitVec 8) #x05))", 35001)
    ∷ ("x\ny z\n", "((define-fun |y z| () (_ BitVec 1) #b1))", 35000)
    ∷ ("x\ny z\n", "((define-fun x()(_ BitVec 8)#x05)(define-fun |y z| () (_ BitVec 1) #b1))", 0)
    ∷ ("x\ny z\n", "((define-fun ;x\n x ( ) ( _ BitVec 8 ) ( _ bv5 8 ) ) (define-fun |y z| () (_ BitVec 1) #b1) )", 0)
    ∷ ("x\ny z\n", "((define-fun x () (_ BitVec 8) #x05)(define-fun |y z| () (_ BitVec 1) #b1)(define-fun w () (_ BitVec 8) #x05))", 32002)
    ∷ ("x\ny z\n", "((define-fun x () (_ BitVec 8) #x05)(define-fun x () (_ BitVec 8) #x05)(define-fun X () (_ BitVec 8) #x05))", 32002)
    ∷ ("x\ny z\n", "((define-fun || () (_ BitVec 8) #x05)(define-fun |y z| () (_ BitVec 1) #b1))", 32000)
    ∷ ("x\ny z\n", "((define-fun model () (_ BitVec 8) #x05)(define-fun |y z| () (_ BitVec 1) #b1))", 32000)
    ∷ ("x\ny z\n", "((define-fun define-fun () (_ BitVec 8) #x05)(define-fun |y z| () (_ BitVec 1) #b1))", 32000)
    ∷ ("x\ny z\n", "((define-fun |x | () (_ BitVec 8) #x05)(define-fun |y z| () (_ BitVec 1) #b1))", 32000)
    ∷ ("x\ny z\n", "((define-fun x () (_ BitVec 8) (_ bv300 8))(define-fun u () (_ BitVec 64) #b1)(define-fun w () (_ BitVec 1) #b1))", 32001)
    ∷ ("x\ny z\n", "((define-fun x () (_ BitVec 8) #x05)(define-fun |y z| () (_ BitVec 1) #b1)(define-fun x () (_ BitVec 8) #x05))", 33002)
    ∷ ("x\ny z\n", "((define-fun x () (_ BitVec 7) #x05)(define-fun |x| () (_ BitVec 7) #x05)(define-fun |y z| () (_ BitVec 1) #b1))", 33001)
    ∷ ("x\ny z\n", "((define-fun x () (_ BitVec 8) #x05)(define-fun x () (_ BitVec 8) #x05))", 33001)
    ∷ ("x\ny z\n", "((define-fun x () (_ BitVec 8) (_ bv300 8))(define-fun |y z| () (_ BitVec 1) #b1))", 34000)
    ∷ ("x\ny z\n", "((define-fun x () (_ BitVec 8) (_ bv256 8))(define-fun |y z| () (_ BitVec 1) #b1))", 34000)
    ∷ ("x\ny z\n", "((define-fun x () (_ BitVec 8) (_ bv255 8))(define-fun |y z| () (_ BitVec 1) #b1))", 1)
    ∷ ("x\ny z\n", "((define-fun x () (_ BitVec 8) (_ bv36893488147419103237 8))(define-fun |y z| () (_ BitVec 1) #b1))", 34000)
    ∷ ("x\ny z\n", "((define-fun |y z| () (_ BitVec 1) #b1)(define-fun x () (_ BitVec 8) #x5))", 34001)
    ∷ ("x\ny z\n", "((define-fun |y z| () (_ BitVec 1) #b1)(define-fun x () (_ BitVec 7) #x05))", 34001)
    ∷ ("x\ny z\n", "((define-fun |y z| () (_ BitVec 1) #b1)(define-fun x () (_ BitVec 9) (_ bv5 9)))", 34001)
    ∷ ("x\ny z\n", "((define-fun |y z| () (_ BitVec 1) #b1)(define-fun x () (_ BitVec 8) (_ bv5 9)))", 34001)
    ∷ ("x\ny z\n", "((define-fun |y z| () (_ BitVec 1) (_ bv2 1)))", 34000)
    ∷ ("x\ny z\n", "((define-fun x () (_ BitVec 8) #x04)(define-fun |y z| () (_ BitVec 1) #b1))", 36000)
    ∷ ("x\ny z\n", "((define-fun x () (_ BitVec 8) #x04)(define-fun |y z| () (_ BitVec 1) #b0))", 36000)
    ∷ []

pub tried : T (right table)
unfolding bit_outside node_of node_at width_at root_at le16 le32 le64 problem zeros three spot_of value_of eval_up evaluate ascii is_lower length_of_run equal digit_of all_in digits_in value_from value_in chop is_one_of is_symbol_byte is_white is_in piece_length is_gap token_at tokens is_barred inside line_length names position is_again some is_simple is_quoted is_name is_numeral up_to64 width_said base_of literal_width is_decimal fits matches heading literal decimal entry_size no_entry value_width value_said entry_of body step_over entries_in left_in is_model entries refuse ◌next◌ first_said variables_below variables list_wrong unknown_at again_at misfits misfit_at absent_at assigned_up assigned contradicted_at zero_at judged_entries judged_text right
tried = tt
