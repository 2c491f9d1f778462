-- Many threads may share a board, since its kernel may go to another thread.
use denote.RattleType.{RattleType}
use denote.Ref.{NamedLft}
use denote.Struct.Declared.{shape}
use denote.Param.Send.{IsSend, IsSync, recorded_send, struct_send, view_send, sendable}
use Rattle.std.proofs.Crossing.{crosses}
use Rattle.fmp_instructions.proofs.instructions.MachineContext.TheSendSync as context
use Rattle.fmp_code.proofs.vm.Vm.TheSendSync as vm
use Rattle.fmp_image_bytes.proofs.image.Image.TheSendSync as image
use Rattle.fmp_kernel.proofs.Crossing.{kernel_send}
use Rattle.fmp_journal.proofs.row.Row.TheSendSync as row
use Rattle.fmp_journal.proofs.scribe.Scribe.TheSendSync as scribe
use Rattle.fmp_board.specs.contracts.board.Board as Board
use Rattle.fmp_board.specs.contracts.book.Book as Book
use Rattle.fmp_board.specs.contracts.book.Book.TheInside as book
use Rattle.fmp_board.specs.contracts.desk.Desk as Desk
use Rattle.fmp_board.specs.declared.site.Site as site

module _ (κ : NamedLft) (S : RattleType) (g : site.Ghosts S.Denot) where
  book_send : IsSend S → IsSend (Book.the_row κ S g)
  book_send s =
      view_send (book.the_row κ S g) _ _ _ _
      (recorded_send (book.the_field κ S g).row _ _ (book.the_type κ S g).to_one
      (struct_send (shape (book.the_type κ S g))
      (search (image.the_sync, kernel_send, vm.the_send, context.the_send, scribe.the_send, crosses, sendable) depth
      40)))

  desk_send : IsSend S → IsSend (Desk.the_row κ S g)
  desk_send s = let inner = book_send s in search (crosses, sendable) depth 20

  pub board_sync : IsSend S → IsSync (Board.the_row κ S g)
  board_sync s = let inner = desk_send s in search (image.the_sync, row.the_sync, crosses, sendable) depth 20
