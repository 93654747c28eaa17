pub mod OnceEach
