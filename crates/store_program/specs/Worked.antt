-- Worked words: which run words of the command line ask for, computed, beside what was meant. The first word is the program's
-- own name. Each is the contract of a function of worked.rt.
use Rattle.std.specs.Prelude.{◌≡◌, List, [], ◌∷◌, Option, Some, None, codes}
use Rattle.clap.specs.Walk.{Text}
use Rattle.store_program.specs.Words.{request_of}
use Rattle.store_program.specs.declared.words.Request.{Request}
use Rattle.store_program.specs.declared.words.Request.TheVariants.{Script, Live, Make}

-- what words behind the program's name ask for
abbrev pub asked_by : List Text → Option Request
asked_by words = request_of (codes "store_program" ∷ words)

-- a script and a live run are asked for by their words, and so is a made script, with the numbers that are said and the usual ones for the others
pub record ModesAreAsked : Type 0 where
  pub script : asked_by (codes "script" ∷ []) ≡ Some Script
  pub live : asked_by (codes "live" ∷ []) ≡ Some Live
  pub make : asked_by (codes "make" ∷ []) ≡ Some (Make 1 1000 3 4)
  pub with_all : asked_by (codes "make" ∷ codes "--seed" ∷ codes "7" ∷ codes "--count" ∷ codes "20000" ∷ codes "--members" ∷ codes "16" ∷ codes "--window" ∷ codes "64" ∷ [])
      ≡ Some (Make 7 20000 16 64)
  pub in_one_word : asked_by (codes "--seed=5" ∷ codes "make" ∷ []) ≡ Some (Make 5 1000 3 4)
  pub behind_dashes : asked_by (codes "--seed" ∷ codes "5" ∷ codes "--" ∷ codes "script" ∷ []) ≡ Some Script

-- no other words are taken: none, another mode, a second one, an option twice, help, an option behind two dashes, and numbers
-- that are none or out of range
pub record OthersAreRefused : Type 0 where
  pub nothing : asked_by [] ≡ None
  pub no_mode : asked_by (codes "frob" ∷ []) ≡ None
  pub two_modes : asked_by (codes "script" ∷ codes "make" ∷ []) ≡ None
  pub twice : asked_by (codes "make" ∷ codes "--seed" ∷ codes "1" ∷ codes "--seed" ∷ codes "1" ∷ []) ≡ None
  pub help : asked_by (codes "--help" ∷ []) ≡ None
  pub shortened : asked_by (codes "make" ∷ codes "--mem" ∷ codes "2" ∷ []) ≡ None
  pub option_last : asked_by (codes "script" ∷ codes "--" ∷ codes "--seed" ∷ codes "5" ∷ []) ≡ None
  pub no_number : asked_by (codes "make" ∷ codes "--count" ∷ codes "many" ∷ []) ≡ None
  pub too_many : asked_by (codes "script" ∷ codes "--members" ∷ codes "17" ∷ []) ≡ None
