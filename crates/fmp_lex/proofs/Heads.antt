-- What begins with a word, one thing between parentheses and a symbol.
use Rattle.std.proofs.Common.{ℕ, List}
use Rattle.fmp_lex.specs.declared.token.Symbol.TheVariants as symbol
use Rattle.fmp_lex.specs.declared.token.TokenKind.{TokenKind}
use Rattle.fmp_lex.specs.declared.token.TokenKind.TheVariants as kind
use Rattle.fmp_lex.specs.declared.reading.GrammarFault.{GrammarFault}
use Rattle.fmp_lex.specs.Reading.{Rel, At, Seq, ParseResult, found, stopped, map_result, Right, Anywhere, RightToken}
use Rattle.fmp_lex.proofs.Sequences.{Framed, Fills, seq_framed, seq_fills, seq_then, seq_stop}
use Rattle.fmp_lex.proofs.Repetitions.{Behind, Placed, behind_framed, behind_fills, behind_then, behind_stop}
use Rattle.fmp_lex.proofs.Repetitions.{placed_framed, placed_fills, placed_right}

abbrev pub left : TokenKind
left = kind.Symbol symbol.LeftParen

abbrev pub right : TokenKind
right = kind.Symbol symbol.RightParen

-- word ( thing ) symbol rest
abbrev pub Head : {A B : Type 0} → TokenKind → TokenKind → Rel B → Rel A → Rel ((ℕ × B) × A)
Head word last R Z = Behind word (Behind left (Seq (Placed R) (Behind right (Behind last Z))))

module _ {A B : Type 0} (word last : TokenKind) (R : Rel B) (Z : Rel A) where
  pub head_framed : Framed R → Framed Z → Framed (Head word last R Z)
  head_framed fr fz = behind_framed word (Behind left (Seq (Placed R) (Behind right (Behind last Z))))
      (behind_framed left (Seq (Placed R) (Behind right (Behind last Z)))
      (seq_framed (Placed R) (Behind right (Behind last Z)) (placed_framed R fr)
      (behind_framed right (Behind last Z) (behind_framed last Z fz))))

  module _ (fr : Framed R) (gr : Fills R) (gz : Fills Z) (EndZ : List TokenKind → ℕ → Type 0) (ts : List TokenKind)
      (i : ℕ) where
    last_fills : Fills (Behind last Z)
    last_fills = behind_fills last Z gz

    right_fills : Fills (Behind right (Behind last Z))
    right_fills = behind_fills right (Behind last Z) last_fills

    thing_fills : Fills (Seq (Placed R) (Behind right (Behind last Z)))
    thing_fills = seq_fills (Placed R) (Behind right (Behind last Z)) (placed_framed R fr)
        (placed_fills R gr) right_fills

    pub word_stop : (j : ℕ) (why : GrammarFault) → RightToken ts word i (stopped j why)
        → Right (At (Head word last R Z) i) EndZ ts i (stopped j why)
    word_stop j why w = behind_stop word (Behind left (Seq (Placed R) (Behind right (Behind last Z))))
        (behind_fills left (Seq (Placed R) (Behind right (Behind last Z))) thing_fills) w

    module _ (k : ℕ) (w : RightToken ts word i (found tt k)) where
      pub left_stop : (j : ℕ) (why : GrammarFault) → RightToken ts left k (stopped j why)
          → Right (At (Head word last R Z) i) EndZ ts i (stopped j why)
      left_stop j why x = behind_then word (Behind left (Seq (Placed R) (Behind right (Behind last Z)))) w
          (stopped j why)
          (behind_stop left (Seq (Placed R) (Behind right (Behind last Z))) thing_fills x)

      module _ (l : ℕ) (lp : RightToken ts left k (found tt l)) where
        behind_left : (o : ParseResult ((ℕ × B) × A)) → Right (At (Seq (Placed R) (Behind right (Behind last Z))) l)
            EndZ ts l o → Right (At (Head word last R Z) i) EndZ ts i o
        behind_left o x = behind_then word (Behind left (Seq (Placed R) (Behind right (Behind last Z)))) w o
            (behind_then left (Seq (Placed R) (Behind right (Behind last Z))) lp o x)

        pub thing_stop : (j : ℕ) (why : GrammarFault) → Right (At R l) Anywhere ts l (stopped j why)
            → Right (At (Head word last R Z) i) EndZ ts i (stopped j why)
        thing_stop j why x = behind_left (stopped j why) (seq_stop (Placed R) (Behind right (Behind last Z))
            (placed_framed R fr) right_fills
            (λ us limit n b m y ends. tt) (placed_right R (stopped j why) x))

        module _ (b : B) (m : ℕ) (r : Right (At R l) Anywhere ts l (found b m)) where
          behind_thing : (o : ParseResult A) → Right (At (Behind right (Behind last Z)) m) EndZ ts m o →
              Right (At (Head word last R Z) i) EndZ ts i (map_result (λ (z : A). ((l, b), z)) o)
          behind_thing (found z j) x = behind_left (found ((l, b), z) j)
              (seq_then (Placed R) (Behind right (Behind last Z)) (placed_framed R fr)
              (λ us limit n b m y ends. tt) (placed_right R (found b m) r) (found z j) x)
          behind_thing (stopped j why) x = behind_left (stopped j why) (seq_then (Placed R)
              (Behind right (Behind last Z)) (placed_framed R fr)
              (λ us limit n b m y ends. tt) (placed_right R (found b m) r) (stopped j why) x)

          pub right_stop : (j : ℕ) (why : GrammarFault) → RightToken ts right m (stopped j why)
              → Right (At (Head word last R Z) i) EndZ ts i (stopped j why)
          right_stop j why x = behind_thing (stopped j why) (behind_stop right (Behind last Z) last_fills x)

          module _ (n : ℕ) (rp : RightToken ts right m (found tt n)) where
            pub last_stop : (j : ℕ) (why : GrammarFault) → RightToken ts last n (stopped j why)
                → Right (At (Head word last R Z) i) EndZ ts i (stopped j why)
            last_stop j why x = behind_thing (stopped j why) (behind_then right (Behind last Z) rp (stopped j why)
                (behind_stop last Z gz x))

            pub rest_then : (q : ℕ) → RightToken ts last n (found tt q) → (o : ParseResult A)
                → Right (At Z q) EndZ ts q o →
                Right (At (Head word last R Z) i) EndZ ts i (map_result (λ (z : A). ((l, b), z)) o)
            rest_then q la o x = behind_thing o (behind_then right (Behind last Z) rp o (behind_then last Z la o x))
